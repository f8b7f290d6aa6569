-- The head of a state: what is stored in it is read there, and what stays is read as before. Assumes nothing.
use Rattle.std.specs.Prelude.{Option}
use mathlib.Core.Bool.{Bool, true, false, ◌&&◌, ◌||◌, not, and-true}
use mathlib.Core.List.{List}
use mathlib.Core.Logic.{⊎_elim}
use mathlib.Core.Path.{◌≡◌, refl, sym, ap, ap₂, ◌∙◌}
use Prim.Native.Nat.{ℕ, ◌+◌, ◌-◌, ◌*◌, ◌%◌, ◌≤◌, ◌<◌}
use native.Mathlib.Nat.{eq-or-lt_of_le}
use native.Mathlib.Omega.{arith}
use lib.Dec.{T, eqb, ltb}
use lib.IntN.{ℤ, pos}
use lib.ListN.{length, get_or, set, length-set}
use borrow.Author.Tests.{eqb-true, eqb-false, ltb-true, ltb-false}
use Rattle.records.specs.Word.{tag_of, raw_of}
use Rattle.tesl.proofs.Tests.{or-e, T→≡}
use Rattle.work.proofs.Below.{below-ext}
use Rattle.judge.specs.declared.progress.Progress.{Progress}
use Rattle.remainders.specs.Rows.{width, all_words, word, Stays}
use Rattle.step.specs.Apply.{Side}
use Rattle.lent.specs.State.{state_count, is_side, is_case, is_kind, has_kinds, has_format, is_state, PutCount, PutLastTags, PutProgress}
use Rattle.remainders.proofs.rows.Laws.{stored, stored_other, stays_all, stays_put, stays_wide, stays_on}

-- ---- a tag stored
abbrev pub SameTag : List ℤ → ℕ → ℕ → Type 0
SameTag tags k w = (tag_of (w % 65536) ≡ get_or tags k (pos 0)) × (w ≡ raw_of (get_or tags k (pos 0)))

-- ---- sides
pub side-small : (from : ℕ) → T (is_side from) → from ≤ 39
side-small from t =
    or-e (eqb from 6) (eqb from 39) t
    (λ p. let e = eqb-true from 6 (T→≡ (eqb from 6) p) in omega arith)
    (λ p. let e = eqb-true from 39 (T→≡ (eqb from 39) p) in omega arith)

pub side-of : (from : ℕ) → T (is_side from) → Side from
side-of from t =
    or-e (eqb from 6) (eqb from 39) t
    (λ p. let e = eqb-true from 6 (T→≡ (eqb from 6) p) in record { one = omega arith; other = omega arith; past = omega arith; apart = λ k l g h z. omega arith })
    (λ p. let e = eqb-true from 39 (T→≡ (eqb from 39) p) in record { one = omega arith; other = omega arith; past = omega arith; apart = λ k l g h z. omega arith })

pub side-is : (from : ℕ) → Side from → T (is_side from)
side-is from s = by_tests (eqb from 6) (eqb from 39) (ltb from 23) refl refl refl
  where
    by_tests : (b c d : Bool) → eqb from 6 ≡ b → eqb from 39 ≡ c → ltb from 23 ≡ d → T (b || c)
    by_tests true c d e f g = tt
    by_tests false true d e f g = tt
    by_tests false false true e f g =
        let l = ltb-true from 23 g in
        let o = s.other in
        ⊎_elim
        (λ (z : 6 ≡ from). eqb-false from 6 e (sym z))
        (λ (z : 6 < from). s.apart (45 - from - from) 0 (omega arith) (omega arith) (omega arith))
        (eq-or-lt_of_le (omega arith))
    by_tests false false false e f g =
        let l = ltb-false from 23 g in
        let o = s.one in
        ⊎_elim
        (eqb-false from 39 f)
        (λ (z : from < 39). s.apart 0 (from + from - 45) (omega arith) (omega arith) (omega arith))
        (eq-or-lt_of_le (omega arith))

-- ---- what stays
pub kinds-same : (a b : List ℕ) → word b 0 2 ≡ word a 0 2 → ((k : ℕ) → k < 16 → word b 1 k ≡ word a 1 k) → has_kinds b ≡ has_kinds a
kinds-same a b e f = below-ext 16 _ _ (λ k h. ap₂ (λ (n w : ℕ). not (ltb k n) || is_kind w) e (f k h))

-- ---- a monitor beside its sheet and its rows
pub same-progress : {i i' f f' : ℕ} {t t' : List ℤ} {c c' : Option ℕ} → i ≡ i' → t ≡ t' → c ≡ c' → f ≡ f' → ◌≡◌ {A = Progress} (record { instants = i; tags = t; count = c; from = f }) (record { instants = i'; tags = t'; count = c'; from = f' })
same-progress a b c d = rw (a, b, c, d)

module _ (k : Progress) (a : List ℕ) where
  abbrev timed : List ℕ
  timed = set a (width * 0 + 3) k.instants

  abbrev pub sided : List ℕ
  sided = set timed (width * 0 + 4) k.from

  module _ (size : length a ≡ all_words) {b c : List ℕ} (n : PutCount k.count sided b) (t : PutLastTags k.tags b c) (side : T (is_side k.from)) where
    -- a word before the tags, and one before the answer
    late : (p : ℕ) → p < 8 → word c 0 p ≡ word b 0 p
    late p h = t.stays.same 0 p (omega arith) (λ e x y. omega arith)

    early : (p : ℕ) → p < 5 → word c 0 p ≡ word sided 0 p
    early p h = late p (omega arith) ∙ n.stays.same 0 p (omega arith) (λ e x y. omega arith)

    from : word c 0 4 ≡ k.from
    from = early 4 (omega arith) ∙ stored timed 0 4 k.from (omega (arith, length-set a (width * 0 + 3) k.instants))

    instants : word c 0 3 ≡ k.instants
    instants =
        early 3 (omega arith) ∙ stored_other timed 0 4 k.from 0 3 (omega arith) (omega arith) (λ x y. omega arith) ∙ stored a 0 3 k.instants (omega arith)

    stays : Stays 0 3 16 a c
    stays =
        stays_on (stays_put (stays_put (stays_all 0 3 16 a) 3 k.instants (omega arith) (omega arith) (omega arith)) 4 k.from (omega arith) (omega arith) (omega arith))
        (stays_on (stays_wide n.stays 3 16 (omega arith) (omega arith)) (stays_wide t.stays 3 16 (omega arith) (omega arith)))

    gap : word c 0 7 ≡ word a 0 7
    gap =
        late 7 (omega arith)
        ∙ n.stays.same 0 7 (omega arith) (λ e x y. omega arith)
        ∙ stored_other timed 0 4 k.from 0 7 (omega arith) (omega arith) (λ x y. omega arith)
        ∙ stored_other a 0 3 k.instants 0 7 (omega arith) (omega arith) (λ x y. omega arith)

    count : state_count c ≡ k.count
    count = rw (late 5 (omega arith), late 6 (omega arith)) n.count

    state : is_state c ≡ (has_format a && has_kinds a)
    unfolding is_state
    state =
        let f : has_format c ≡ has_format a = rw (stays.same 0 0 (omega arith) (λ e x y. omega arith)) in
        let g : has_kinds c ≡ has_kinds a = kinds-same a c (stays.same 0 2 (omega arith) (λ e x y. omega arith)) (λ j h. stays.same 1 j (omega arith) (λ e x y. omega arith)) in
        let s : is_side (word c 0 4) ≡ true = ap is_side from ∙ T→≡ (is_side k.from) side in
        let r : is_case (word c 0 5) ≡ true = ap is_case (late 5 (omega arith)) ∙ n.answer in
        ap₂ ◌&&◌ (ap₂ ◌&&◌ f g) (ap₂ ◌&&◌ s r) ∙ and-true _

    pub progress-put : PutProgress k a c
    progress-put = record { stays = stays; live = late 6 (omega arith) ∙ n.live; gap = gap; raw = t.raw; progress = same-progress instants t.tags count from; state = state }
