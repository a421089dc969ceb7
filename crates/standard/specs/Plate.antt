-- The standard plate: what build writes of the standard rules, flag on. Assumes nothing.
use Rattle.std.specs.Prelude.{ℕ, true, List, take, replicate}
use Rattle.builder.specs.Build.{build_answer}
use Rattle.standard.specs.Rules.{text}

unfoldable pub standard : List ℕ
standard = let b = build_answer text true (replicate 1765 0) in take b.length b.buffer
