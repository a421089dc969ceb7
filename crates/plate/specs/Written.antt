-- A plate's bits and bytes. 01, "The plate, bits most significant first". Assumes nothing.
use Rattle.std.specs.Prelude.{ℕ, ◌-◌, Bool, cond, List, ◌++◌, length}
use Rattle.laws.specs.Lists.{cat}
use Rattle.plate.specs.Bits.{bits_of, pack}
use Rattle.plate.specs.Plate.{Folding, Rule, Plate, Edition, edition_for}

-- a list: how many in w bits, then one behind the other
abbrev pub with_count : {A : Type 0} → ℕ → (A → List ℕ) → List A → List ℕ
with_count w f xs = bits_of w (length xs) ++ cat f xs

-- "4 bits a digit"
abbrev pub digit_bits : ℕ → List ℕ
digit_bits d = bits_of 4 (d - 48)

-- "per alternative 3 bits digit count and 4 bits a digit"
abbrev pub alternative_bits : List ℕ → List ℕ
alternative_bits = with_count 3 digit_bits

-- "three fields (start, before vowel, default), each 4 bits count, then [the alternatives]"
abbrev pub field_bits : List (List ℕ) → List ℕ
field_bits = with_count 4 alternative_bits

-- "Rules: 5 bits pattern length in bytes, the bytes; then three fields"
abbrev pub rule_bits : Rule → List ℕ
rule_bits r = with_count 5 (bits_of 8) r.pattern ++ (field_bits r.start ++ (field_bits r.vowel ++ field_bits r.other))

-- "Foldings, stored whatever the flag: 21 bits key, 21 bits target"
abbrev pub folding_bits : Folding → List ℕ
folding_bits f = bits_of 21 f.key ++ bits_of 21 f.target

abbrev pub flag_bit : Bool → ℕ
flag_bit b = cond b 1 0

-- "8 bits edition 1; 10 bits rule count; 8 bits folding count; 1 bit folding flag; 5 zero bits"; "Edition 2 has an 11-bit count and 4 zero bits": 32 in all
abbrev pub head_in : Edition → ℕ → ℕ → Bool → List ℕ
head_in e rules foldings flag = bits_of 8 e.number ++ (bits_of e.width rules ++ (bits_of 8 foldings ++ (bits_of 1 (flag_bit flag) ++ bits_of (15 - e.width) 0)))

abbrev pub head_bits : Edition → Plate → List ℕ
head_bits e p = head_in e (length p.rules) (length p.foldings) p.flag

abbrev pub plate_bits : Edition → Plate → List ℕ
plate_bits e p = head_bits e p ++ (cat folding_bits p.foldings ++ cat rule_bits p.rules)

-- "Zero bits fill the last byte."
abbrev pub bytes_in : Edition → Plate → List ℕ
bytes_in e p = pack (plate_bits e p)

-- "Build writes edition 1 up to 512 rules and edition 2 above": the head of so many rules and foldings, and the whole plate
abbrev pub head_of : ℕ → ℕ → Bool → List ℕ
head_of rules = head_in (edition_for rules) rules

abbrev pub plate_bytes : Plate → List ℕ
plate_bytes p = bytes_in (edition_for (length p.rules)) p
