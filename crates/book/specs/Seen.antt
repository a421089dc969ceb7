-- Which patterns may be among those noted: a hash of a pattern, and marks of the hashes met. Nothing rests on which hash it is: equal patterns have equal ones.
-- Assumes nothing.
use Rattle.std.specs.Prelude.{ℕ, ◌+◌, ◌*◌, ◌/◌, ◌%◌, Bool, cond, ◌||◌, List, [], ◌∷◌, eqb, get_or, set}

-- a hash, in 22 bits, is below this
abbrev pub hashes : ℕ
hashes = 4194304

-- any odd number far above a byte spreads patterns well
abbrev pub spread : ℕ
spread = 1664525

unfoldable pub hash_from : ℕ → List ℕ → ℕ
hash_from h [] = h
hash_from h (b ∷ more) = hash_from ((h + b) * spread % hashes) more

abbrev pub hash_of : List ℕ → ℕ
hash_of = hash_from 0

-- ---- marks

abbrev pub slots : ℕ
slots = 4096

-- the mark of two or more hashes
abbrev pub several : ℕ
several = 255

-- a slot is the upper bits of a hash, from here on
abbrev pub upper : ℕ
upper = 1024

abbrev pub slot_of : ℕ → ℕ
slot_of h = h / upper % slots

-- how many marks of one hash there are: from 1 on, and below `several`
abbrev pub marks : ℕ
marks = 254

abbrev pub mark_of : ℕ → ℕ
mark_of h = 1 + h % marks

-- one of this hash may have been met
abbrev pub may_hold : List ℕ → ℕ → Bool
may_hold seen h = eqb (get_or seen (slot_of h) 0) (mark_of h) || eqb (get_or seen (slot_of h) 0) several

-- one of this hash is met
abbrev pub marked : List ℕ → ℕ → List ℕ
marked seen h = set seen (slot_of h) (cond (eqb (get_or seen (slot_of h) 0) 0) (mark_of h) several)
