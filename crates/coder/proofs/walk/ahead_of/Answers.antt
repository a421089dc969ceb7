-- `walk::ahead_of` meets its contract: the bytes so far are the first i characters as one number (Compared.bytes_more), and at each way out they are shifted to
-- the front (Compared.in_front). Assumes nothing.
use Rattle.std.proofs.Common.{ℕ, ◌+◌, ◌*◌, ◌^◌, ◌<◌, ◌≡◌, List, get_or, refl, sym, ap, ap₂, subst, ◌∙◌, add-one, arith}
use lib.Pow.{pow_mono}
use Rattle.plate.specs.Stands.{packed}
use Rattle.coder.specs.Held.{ahead, Plain}
use Rattle.coder.proofs.Compared.{bytes_more, bytes_lt, plain_none, plain_more, in_front}
use Rattle.coder.proofs.walk.ahead_of.Goals as goal

-- None yet.
no_bytes : (cs : List ℕ) → 0 ≡ packed 0 (ahead 0 cs)
unfolding packed ahead
no_bytes cs = refl

fits : (cs : List ℕ) (i v : ℕ) → Plain i cs → v ≡ packed 0 (ahead i cs) → v < 2 ^ (8 * i)
fits cs i v p e = subst (λ (x : ℕ). x < 2 ^ (8 * i)) (sym e) (bytes_lt i cs p)

-- Fewer than six take no more than 40 bits.
few_bytes : (cs : List ℕ) (i v : ℕ) → i < 6 → Plain i cs → v ≡ packed 0 (ahead i cs) → v < 1099511627776
few_bytes cs i v h p e =
    let less = bytes_lt i cs p in
    let most = pow_mono {i = 8 * i} {j = 40} (omega arith) in omega arith

pub loop-i-init : goal.loop-i-init
loop-i-init c = (plain_none _, no_bytes _)

pub in_front-requires : goal.in_front-requires
in_front-requires c = let l = c.loop-i in (omega (arith, c.loop-i-test.true), fits _ l.i l.bytes l.invariant.0 l.invariant.1)

pub returns-then-c-ge128 : goal.returns-then-c-ge128
returns-then-c-ge128 c =
    let l = c.loop-i in
    in_front _ l.i l.bytes (omega (arith, c.loop-i-test.true)) l.invariant.0 l.invariant.1 _ c.in_front.ensures

pub overflow_mul-bytes : goal.overflow_mul-bytes
overflow_mul-bytes c =
    let l = c.loop-i in
    let h = few_bytes _ l.i l.bytes c.loop-i-test.true l.invariant.0 l.invariant.1 in record { fits = omega arith }

pub overflow_add-bytes : goal.overflow_add-bytes
overflow_add-bytes c =
    let l = c.loop-i in
    let h = few_bytes _ l.i l.bytes c.loop-i-test.true l.invariant.0 l.invariant.1 in record { fits = omega (arith, c.if-c-ge128.false, c.from.ensures) }

pub loop-i-preserved : goal.loop-i-preserved
loop-i-preserved c =
    let l = c.loop-i in
    let cs = c.args.rest.now in
    let small : get_or cs l.i 0 < 128 = omega (arith, c.if-c-ge128.false, c.char_ahead-c.ensures) in (
      subst (λ (m : ℕ). Plain m cs) (sym (add-one l.i)) (plain_more l.i cs l.invariant.0 small),
      ap₂ (λ (v x : ℕ). v * 256 + x) l.invariant.1 (c.from.ensures ∙ c.char_ahead-c.ensures) ∙ sym (bytes_more l.i cs) ∙ ap (λ (m : ℕ). packed 0 (ahead m cs)) (sym (add-one l.i)),
    )

pub in_front-requires-2 : goal.in_front-requires-2
in_front-requires-2 c =
    let l = c.loop-i in
    let six : l.i ≡ 6 = omega (arith, c.loop-i-test.false) in
    (omega arith, subst (λ (k : ℕ). l.bytes < 2 ^ (8 * k)) six (fits _ l.i l.bytes l.invariant.0 l.invariant.1))

pub returns : goal.returns
returns c =
    let l = c.loop-i in
    let cs = c.args.rest.now in
    let six : l.i ≡ 6 = omega (arith, c.loop-i-test.false) in
    in_front cs 6 l.bytes (omega arith) (subst (λ (m : ℕ). Plain m cs) six l.invariant.0) (l.invariant.1 ∙ ap (λ (m : ℕ). packed 0 (ahead m cs)) six) _ c.in_front-2.ensures
