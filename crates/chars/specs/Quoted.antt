-- Quoted text as UTF-8 bytes, so that examples can be written as 01 writes them. Assumes nothing.
use Rattle.std.specs.Prelude.{ℕ, List, [], ◌∷◌, ◌++◌}
use Prim.Native.Char.{code}
use Prim.Native.String.{String}
use Rattle.chars.specs.Utf8.{bytes_of}

abbrev pub bytes : String → List ℕ
bytes String.[] = []
bytes (String.◌∷◌ c s) = bytes_of (code c) ++ bytes s

-- lines, each closed by a newline
abbrev pub lines : List String → List ℕ
lines [] = []
lines (l ∷ more) = bytes l ++ (10 ∷ lines more)
