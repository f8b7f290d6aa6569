-- The machine's answer is what document 01 says, and nothing else is. Assumes nothing.
use mathlib.Core.Bool.{Bool, true, false}
use mathlib.Core.List.Memᴰ
use mathlib.Core.List.{List, [], ◌∷◌, ◌++◌, map, Memᴰ}
use mathlib.Core.Logic.{◌↔◌, inl, inr}
use mathlib.Core.Path.{◌≡◌, refl, sym, ap, ◌∙◌, subst}
use Prim.Native.Nat.{ℕ, suc, ◌≤◌}
use native.Mathlib.Nat.{le_antisymm}
use native.Mathlib.Omega.{arith}
use lib.Dec.{T, ltb, ltb→lt, lt→ltb}
use lib.ListN.{length, length-map}
use Rattle.records.specs.Sheet.{SheetValue}
use Rattle.records.specs.Types.{All}
use Rattle.tesl.specs.Lists.{any, beginnings}
use Rattle.tesl.specs.Run.{Instant, Filled}
use Rattle.tesl.specs.Fits.{most_tag}
use Rattle.tesl.specs.Remainder.{Remainder, remainder, owes, counts, overfull, is_clear}
use Rattle.tesl.specs.Answer.{Standing, clear, owed, Answer, exhausted, broken, holding, remainders, too_many, over, standing, judged, verdict, answer_within}
use Rattle.theory.specs.Limits.{OnScale}
use Rattle.theory.specs.Unmet.{NoneOwed}
use Rattle.theory.specs.Said.{Fitting, Live, TooMany, Exhausts, Said}
use Rattle.tesl.proofs.Tests.{or_l, or_r, or-e}
use Rattle.theory.proofs.Scale.{front-scale}
use Rattle.theory.proofs.Lists.{any-map, member-any, any-member}
use Rattle.theory.proofs.Members.{of-each, no_more, of-beginnings, a-beginning}
use Rattle.theory.proofs.Respect.{overfull-respects, clear-respects}
use Rattle.theory.proofs.Kept.{left-equivalence, kept, remainders-kept, kept-fits, kept-all, all-kept, leaves-apart, leaves-number, owing-number, counting-number}
use Rattle.theory.proofs.SameLeft.{same_left, left-tested}
use Rattle.theory.proofs.Seen.{clear-exactly, clear-when, clear_of}

-- ---- exhausted

too_many-law : (room : ℕ) (s : SheetValue) (run : List Instant) → OnScale most_tag run → T (too_many room (remainders s run)) ↔ TooMany room s run
unfolding too_many overfull
too_many-law room s run on = (found, tested)
  where
    ks : List (List Filled)
    ks = kept s run

    rs : List Remainder
    rs = remainders s run

    as_many : length rs ≡ length ks
    as_many = ap length (remainders-kept s run) ∙ length-map ks (remainder s)

    all-owed : any overfull rs ≡ any (λ (f : List Filled). overfull (remainder s f)) ks
    all-owed = ap (any overfull) (remainders-kept s run) ∙ any-map overfull (remainder s) ks

    found : T (too_many room rs) → TooMany room s run
    found t = or-e (ltb room (length rs)) (any overfull rs) t
        (λ u. let l = ltb→lt room (length rs) u in inl ((leaves-number s run on _).1 (omega (arith, as_many))))
        (λ u.
        let m = any-member (λ (f : List Filled). overfull (remainder s f)) ks (subst T all-owed u) in
        let r = remainder s m.0 in
        let fits = of-each (Fitting s run) (kept-fits s run on) m.1 in
        inr (or-e (ltb 8 (owes r)) (ltb 8 (counts r)) m.2
        (λ v. let l = ltb→lt 8 (owes r) v in inl ((owing-number s run _).1 (m.0, fits, omega arith)))
        (λ v. let l = ltb→lt 8 (counts r) v in inr ((counting-number s run _).1 (m.0, fits, omega arith)))))

    -- a fitting filling with too many is one of those kept
    one_kept : (f : List Filled) → Fitting s run f → T (overfull (remainder s f)) → T (too_many room rs)
    one_kept f h t =
        let g = kept-all s run on f h in
        or_r (ltb room (length rs)) (any overfull rs)
        (subst T (sym all-owed) (member-any (λ (f : List Filled). overfull (remainder s f)) g.1 (overfull-respects (remainder s f) (remainder s g.0) g.2 t)))

    tested : TooMany room s run → T (too_many room rs)
    tested (inl h) = let l = (leaves-number s run on _).0 h in or_l (ltb room (length rs)) (any overfull rs) (lt→ltb room (length rs) (omega (arith, as_many)))
    tested (inr (inl h)) =
        let w = (owing-number s run _).0 h in
        let r = remainder s w.0 in
        one_kept w.0 w.1 (or_l (ltb 8 (owes r)) (ltb 8 (counts r)) (lt→ltb 8 (owes r) (omega (arith, w.2))))
    tested (inr (inr h)) =
        let w = (counting-number s run _).0 h in
        let r = remainder s w.0 in
        one_kept w.0 w.1 (or_r (ltb 8 (owes r)) (ltb 8 (counts r)) (lt→ltb 8 (counts r) (omega (arith, w.2))))

exhausts-exactly : (room : ℕ) (s : SheetValue) (run : List Instant) → OnScale most_tag run → T (over room s run) ↔ Exhausts room s run
unfolding over
exhausts-exactly room s run on = (
  λ t. let r = of-beginnings many run t in record { beginning = r.0; rest = r.1; begins = r.2; too_many = (too_many-law room s r.0 (on-front r.0 r.1 r.2)).0 r.3 },
  λ h. subst (λ (l : List Instant). T (any many (beginnings l))) (sym h.begins) (a-beginning many h.beginning h.rest ((too_many-law room s h.beginning (on-front h.beginning h.rest h.begins)).1 h.too_many)),
)
  where
    many : List Instant → Bool
    many b = too_many room (remainders s b)

    on-front : (front rest : List Instant) → run ≡ front ++ rest → OnScale most_tag front
    on-front front rest e = front-scale front rest (subst (OnScale most_tag) e on)

-- ---- clear

clear-found : (s : SheetValue) (run : List Instant) → OnScale most_tag run → (standing (map (remainder s) (kept s run)) ≡ clear) ↔ ((f : List Filled) × Fitting s run f × NoneOwed most_tag s.lines f)
clear-found s run on = (
  λ e.
      let m = any-member (λ (f : List Filled). is_clear (remainder s f)) ks (subst T (any-map is_clear (remainder s) ks) (clear-when (any is_clear (map (remainder s) ks)) e)) in
      (m.0, of-each (Fitting s run) (kept-fits s run on) m.1, (clear-exactly s m.0).0 m.2),
  λ h.
      let g = kept-all s run on h.0 h.1 in
      clear_of (any is_clear (map (remainder s) ks)) (subst T (sym (any-map is_clear (remainder s) ks))
      (member-any (λ (f : List Filled). is_clear (remainder s f)) g.1 (clear-respects (remainder s h.0) (remainder s g.0) g.2 ((clear-exactly s h.0).1 h.2)))),
)
  where
    ks : List (List Filled)
    ks = kept s run

-- ---- the answer

pub answer-said : (room : ℕ) (s : SheetValue) (run : List Instant) → OnScale most_tag run → Said room s run (answer_within room s run)
unfolding answer_within judged kept all-kept
answer-said room s run on =
    subst (λ (rs : List Remainder). Said room s run (verdict (over room s run) rs)) (sym (remainders-kept s run))
    (by-test (over room s run) (kept s run) (exhausts-exactly room s run on) (all-kept s run on) refl (clear-found s run on))
  where
    Clear : Standing → Type 0
    Clear st = (st ≡ clear) ↔ ((f : List Filled) × Fitting s run f × NoneOwed most_tag s.lines f)

    by-test : (b : Bool) (ks : List (List Filled)) → T b ↔ Exhausts room s run → (l : Live s run (length ks)) → l.distinct-left.these ≡ ks → Clear (standing (map (remainder s) ks))
        → Said room s run (verdict b (map (remainder s) ks))
    by-test true ks x l e c = record {
      exhausts = (λ q. x.0 tt, λ h. refl);
      breaks = λ n. absurd (n refl);
      holds = λ live st q. let z : ◌≡◌ {A = ℕ} 0 1 = cc in absurd (omega arith);
    }
    by-test false [] x l e c = record {
      exhausts = (λ q. let z : ◌≡◌ {A = ℕ} 0 1 = cc in absurd (omega arith), λ h. absurd (x.1 h));
      breaks = λ n. (λ q f h. let g = l.no_other f h in Memᴰ.not-nil (subst (Memᴰ g.0) e g.1), λ no. refl);
      holds = λ live st q. let z : ◌≡◌ {A = ℕ} 0 1 = cc in absurd (omega arith);
    }
    by-test false (k ∷ ks) x l e c = record {
      exhausts = (λ q. let z : ◌≡◌ {A = ℕ} 0 1 = cc in absurd (omega arith), λ h. absurd (x.1 h));
      breaks = λ n. (λ q. let z : ◌≡◌ {A = ℕ} 0 1 = cc in absurd (omega arith), λ no. absurd (no k (subst (All (Fitting s run)) e l.distinct-left.each_fits).0));
      holds = λ live st q.
          let a : length (k ∷ ks) ≡ live = sym (ap suc (length-map ks (remainder s))) ∙ cc in
          let b : standing (map (remainder s) (k ∷ ks)) ≡ st = cc in
          (subst (Live s run) a l, subst Clear b c);
    }

-- ---- and nothing else is said of the run

live-one : (s : SheetValue) (run : List Instant) (n m : ℕ) → Live s run n → Live s run m → n ≡ m
live-one s run n m h k = le_antisymm (at_most n m h k) (at_most m n k h)
  where
    at_most : (n m : ℕ) → Live s run n → Live s run m → n ≤ m
    at_most n m h k =
        let l = no_more (same_left s) (left-equivalence s) h.distinct-left.these k.distinct-left.these (leaves-apart s run n h.distinct-left)
        (λ f u. let g = k.no_other f (of-each (Fitting s run) h.distinct-left.each_fits u) in (g.0, g.1, left-tested s f g.0 g.2)) in
        omega (arith, h.distinct-left.number, k.distinct-left.number)

standing-one : {X : Type 0} (a b : Standing) → (a ≡ clear) ↔ X → (b ≡ clear) ↔ X → a ≡ b
standing-one clear b h k = sym (k.1 (h.0 refl))
standing-one owed clear h k = h.1 (k.0 refl)
standing-one owed owed h k = refl

said-once : (room : ℕ) (s : SheetValue) (run : List Instant) (a b : Answer) → Said room s run a → Said room s run b → a ≡ b
said-once room s run exhausted b h k = sym (k.exhausts.1 (h.exhausts.0 refl))
said-once room s run broken exhausted h k = h.exhausts.1 (k.exhausts.0 refl)
said-once room s run broken broken h k = refl
said-once room s run broken (holding m u) h k =
    sym ((k.breaks (λ q. let z : ◌≡◌ {A = ℕ} 0 1 = cc in omega arith)).1 ((h.breaks (λ q. let z : ◌≡◌ {A = ℕ} 0 1 = cc in omega arith)).0 refl))
said-once room s run (holding n t) exhausted h k = h.exhausts.1 (k.exhausts.0 refl)
said-once room s run (holding n t) broken h k =
    (h.breaks (λ q. let z : ◌≡◌ {A = ℕ} 0 1 = cc in omega arith)).1 ((k.breaks (λ q. let z : ◌≡◌ {A = ℕ} 0 1 = cc in omega arith)).0 refl)
said-once room s run (holding n t) (holding m u) h k =
    let l = live-one s run n m (h.holds n t refl).0 (k.holds m u refl).0 in
    let e = standing-one t u (h.holds n t refl).1 (k.holds m u refl).1 in
    λ i. holding (l i) (e i)

pub said-is : (room : ℕ) (s : SheetValue) (run : List Instant) → OnScale most_tag run → (a : Answer) → Said room s run a → a ≡ answer_within room s run
said-is room s run on a h = said-once room s run a (answer_within room s run) h (answer-said room s run on)
