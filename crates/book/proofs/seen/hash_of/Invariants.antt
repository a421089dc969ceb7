-- `seen::hash_of` meets its contract. The loop keeps: the hash from here on is the hash of all (Hashes.hash_turn). Assumes nothing.
use Prim.Native.Nat.{◌<◌}
use mathlib.Core.Path.{◌≡◌}
use lib.ListN.{drop}
use Rattle.book.specs.Seen.{hashes, hash_from, hash_of}
use Rattle.book.proofs.seen.hash_of.Given as goal

abbrev pub invariant-loop-b : goal.invariant-loop-b
invariant-loop-b l = (l.hash < hashes) × (hash_from l.hash (drop l.b-index l.pattern) ≡ hash_of l.pattern)
