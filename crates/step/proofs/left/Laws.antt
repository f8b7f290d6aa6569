-- What an instant leaves of a set, one after the other; and read as obligations or as countdowns it is what the instant leaves of these. Assumes nothing.
use mathlib.Core.Bool.{Bool, true, false, not, cond, ◌&&◌, and-false}
use mathlib.Core.List.{List, [], ◌∷◌, ◌++◌, map, append-nil, append_assoc}
use mathlib.Core.Option
use mathlib.Core.Option.{Option, none, some}
use mathlib.Core.Path.{◌≡◌, refl, sym, ap, ◌∙◌}
use Prim.Native.Nat.{ℕ, ◌-◌, ◌<◌, ◌≤◌}
use native.Mathlib.Omega.{arith}
use lib.Dec.{eqb, ltb, lt→ltb}
use lib.Signed.{le_z}
use borrow.Author.Tests.{eqb-true, eqb-false, le-ltb}
use Rattle.tesl.proofs.Tests.{T→≡}
use Rattle.tesl.specs.Run.{Filled, ticks_at, tag_in}
use Rattle.tesl.specs.Fits.{Obligation, meets, not_late, Countdown, left_of, left_by}
use Rattle.theory.specs.Step.{misses, none_missed}
use Rattle.work.specs.Owed.{left, still_owed, still_counting}
use Rattle.remainders.specs.declared.obligation.Obligation as code
use Rattle.step.specs.declared.left.Left.{Left}
use Rattle.step.specs.declared.left.Left.TheVariants.{Done, Unfit, Still}
use Rattle.remainders.specs.View.{obligation_of, countdown_of}
use Rattle.step.specs.Left.{left_owed, one_fewer, left_counting, consed, keeps, each_left}

-- ---- one after the other: what is kept so far with what is left of the rest

module _ (g : code.Obligation → Left) where
  abbrev ahead : List code.Obligation → Option (List code.Obligation) → Option (List code.Obligation)
  ahead xs none = none
  ahead xs (some ys) = some (xs ++ ys)

  abbrev pub left_from : List code.Obligation → List code.Obligation → Option (List code.Obligation)
  left_from xs rest = ahead xs (each_left g rest)

  ahead_none : (q : Option (List code.Obligation)) → ahead [] q ≡ q
  ahead_none none = refl
  ahead_none (some ys) = refl

  pub left-start : {os rest : List code.Obligation} → os ≡ rest → each_left g os ≡ left_from [] rest
  left-start {rest = rest} e = ap (each_left g) e ∙ sym (ahead_none (each_left g rest))

  module _ {whole : Option (List code.Obligation)} (xs rest : List code.Obligation) (w : whole ≡ left_from xs rest) where
    pub left_end : rest ≡ [] → some xs ≡ whole
    left_end e = sym (w ∙ ap (left_from xs) e ∙ ap some (append-nil xs))

    module _ {o : code.Obligation} {more : List code.Obligation} (e : rest ≡ o ∷ more) {l : Left} (h : l ≡ g o) where
      turn : whole ≡ ahead xs (keeps l (each_left g more))
      turn = w ∙ ap (left_from xs) e ∙ ap (λ (k : Left). ahead xs (keeps k (each_left g more))) (sym h)

      pub left-done : l ≡ Done → whole ≡ left_from xs more
      left-done t = turn ∙ ap (λ (k : Left). ahead xs (keeps k (each_left g more))) t

      pub left-unfit : l ≡ Unfit → none ≡ whole
      left-unfit t = sym (turn ∙ ap (λ (k : Left). ahead xs (keeps k (each_left g more))) t)

      pub left-still : {k : code.Obligation} → l ≡ Still k → whole ≡ left_from (xs ++ (k ∷ [])) more
      left-still {k} t = turn ∙ ap (λ (x : Left). ahead xs (keeps x (each_left g more))) t ∙ by-rest (each_left g more)
        where
          by-rest : (q : Option (List code.Obligation)) → ahead xs (consed k q) ≡ ahead (xs ++ (k ∷ [])) q
          by-rest none = refl
          by-rest (some ys) = ap some (sym (append_assoc xs (k ∷ []) ys))

-- ---- read

module _ {E : Type 0} (read : code.Obligation → E) where
  consed-read : (o : code.Obligation) (q : Option (List code.Obligation)) → Option.map (map read) (consed o q) ≡ consed (read o) (Option.map (map read) q)
  consed-read o none = refl
  consed-read o (some os) = refl

consed-test : {E : Type 0} (x : E) (xs : List E) (b : Bool) → consed x (cond b (some xs) none) ≡ cond b (some (x ∷ xs)) none
consed-test x xs true = refl
consed-test x xs false = refl

-- obligations
pub left-owed : (f : Filled) (os : List code.Obligation) → Option.map (map obligation_of) (each_left (left_owed f) os) ≡ still_owed f (map obligation_of os)
unfolding still_owed
left-owed f [] = refl
left-owed f (o ∷ os) = by_tests (meets f (obligation_of o)) (le_z (tag_in f.tags o.on) (obligation_of o).due) refl (left-owed f os)
  where
    rest : List Obligation
    rest = left f (map obligation_of os)

    by_tests : (m l : Bool) → le_z (tag_in f.tags o.on) (obligation_of o).due ≡ l
        → Option.map (map obligation_of) (each_left (left_owed f) os) ≡ cond (not_late (some f.tags) rest) (some rest) none
        → Option.map (map obligation_of) (keeps (cond m Done (cond l (Still o) Unfit)) (each_left (left_owed f) os))
        ≡ cond (not_late (some f.tags) (cond (not m) (obligation_of o ∷ rest) rest)) (some (cond (not m) (obligation_of o ∷ rest) rest)) none
    by_tests true l e h = h
    by_tests false true e h =
        consed-read obligation_of o (each_left (left_owed f) os)
        ∙ ap (consed (obligation_of o)) h
        ∙ consed-test (obligation_of o) rest (not_late (some f.tags) rest)
        ∙ sym (ap (λ (b : Bool). cond (b && not_late (some f.tags) rest) (some (obligation_of o ∷ rest)) none) e)
    by_tests false false e h = sym (ap (λ (b : Bool). cond (b && not_late (some f.tags) rest) (some (obligation_of o ∷ rest)) none) e)

-- countdowns: what an instant leaves of one
data Leaves (f : Filled) (o : code.Obligation) : Left → Type 0 where
  done : misses f (countdown_of o) ≡ false → left_of (f ∷ []) (countdown_of o) ≡ [] → Leaves f o Done
  unfit : misses f (countdown_of o) ≡ true → Leaves f o Unfit
  still : {k : code.Obligation} → misses f (countdown_of o) ≡ false → left_of (f ∷ []) (countdown_of o) ≡ countdown_of k ∷ [] → Leaves f o (Still k)

leaves : (f : Filled) (o : code.Obligation) → Leaves f o (left_counting f.ticks o)
leaves f o = by_tests (eqb n 0) refl (ticks_at f o.on) refl (eqb n 1) refl (ticks_at f o.clock) refl
  where
    n : ℕ
    n = o.number

    wanting : ℕ → Countdown
    wanting k = record { clock = o.clock; on = o.on; wanted = k }

    -- by whether the on-clock ticks, whether one is wanted, and whether the clock ticks
    missing : Bool → Bool → Bool → Bool
    missing t w d = t && w && not d

    after : Bool → List Countdown
    after t = cond (ltb (cond t 1 0) n) (wanting (n - cond t 1 0) ∷ []) []

    more : (t : Bool) → cond t 1 0 < n → after t ≡ wanting (n - cond t 1 0) ∷ []
    more t h = ap (λ (b : Bool). cond b (wanting (n - cond t 1 0) ∷ []) []) (T→≡ (ltb (cond t 1 0) n) (lt→ltb (cond t 1 0) n h))

    no_more : (t : Bool) → n ≤ cond t 1 0 → after t ≡ []
    no_more t h = ap (λ (b : Bool). cond b (wanting (n - cond t 1 0) ∷ []) []) (le-ltb (cond t 1 0) n h)

    by_tests : (z : Bool) → eqb n 0 ≡ z → (t : Bool) → ticks_at f o.on ≡ t → (w : Bool) → eqb n 1 ≡ w → (d : Bool) → ticks_at f o.clock ≡ d
        → Leaves f o (cond z Done (cond t (cond w (cond d Done Unfit) (Still (one_fewer o))) (Still o)))
    by_tests true y t a false c d e =
        let h = eqb-true n 0 y in
        done (ap (λ (b : Bool). ticks_at f o.on && b && not (ticks_at f o.clock)) c ∙ ap (λ (b : Bool). b && not (ticks_at f o.clock)) (and-false (ticks_at f o.on))) (no_more (ticks_at f o.on) (omega arith))
    by_tests true y t a true c d e = let h = eqb-true n 0 y in let k = eqb-true n 1 c in absurd (omega arith)
    by_tests false y false a w c d e =
        let h = eqb-false n 0 y in
        let same : n - 0 ≡ n = omega arith in
        still (ap (λ (b : Bool). missing b (eqb n 1) (ticks_at f o.clock)) a) (ap after a ∙ more false (omega (arith, h)) ∙ ap (λ (k : ℕ). wanting k ∷ []) same)
    by_tests false y true a true c true e =
        let h = eqb-true n 1 c in
        done (λ i. missing (a i) (c i) (e i)) (ap after a ∙ no_more true (omega arith))
    by_tests false y true a true c false e = unfit (λ i. missing (a i) (c i) (e i))
    by_tests false y true a false c d e =
        let h = eqb-false n 0 y in
        let k = eqb-false n 1 c in
        still (λ i. missing (a i) (c i) (ticks_at f o.clock)) (ap after a ∙ more true (omega (arith, h, k)))

pub left-counting : (f : Filled) (os : List code.Obligation) → Option.map (map countdown_of) (each_left (left_counting f.ticks) os) ≡ still_counting f (map countdown_of os)
unfolding still_counting
left-counting f [] = refl
left-counting f (o ∷ os) = by_left-law (leaves f o) (left-counting f os)
  where
    c : Countdown
    c = countdown_of o

    cs : List Countdown
    cs = map countdown_of os

    q : Option (List code.Obligation)
    q = each_left (left_counting f.ticks) os

    by_left-law : {l : Left} → Leaves f o l → Option.map (map countdown_of) q ≡ cond (none_missed f cs) (some (left_by (f ∷ []) cs)) none
        → Option.map (map countdown_of) (keeps l q) ≡ cond (not (misses f c) && none_missed f cs) (some (left_of (f ∷ []) c ++ left_by (f ∷ []) cs)) none
    by_left-law (done m e) h = h ∙ sym (λ i. cond (not (m i) && none_missed f cs) (some (e i ++ left_by (f ∷ []) cs)) none)
    by_left-law (unfit m) h = sym (ap (λ (b : Bool). cond (not b && none_missed f cs) (some (left_of (f ∷ []) c ++ left_by (f ∷ []) cs)) none) m)
    by_left-law (still {k = k} m e) h =
        consed-read countdown_of k q
        ∙ ap (consed (countdown_of k)) h
        ∙ consed-test (countdown_of k) (left_by (f ∷ []) cs) (none_missed f cs)
        ∙ sym (λ i. cond (not (m i) && none_missed f cs) (some (e i ++ left_by (f ∷ []) cs)) none)
