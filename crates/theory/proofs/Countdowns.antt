-- Countdowns of a run: with one more instant; line by line; and what a counted line asks at an instant, namely that none of its countdowns is missed there. Assumes nothing.
use mathlib.Core.Bool.{Bool, true, false, not, cond, ◌&&◌, ◌||◌}
use mathlib.Core.List.{List, [], ◌∷◌, ◌++◌, append-nil}
use mathlib.Core.Path.{◌≡◌, refl, sym, ap, ◌∙◌, subst, fun_ext}
use Prim.Native.Nat.{ℕ, ◌+◌, ◌-◌, ◌≤◌, ◌<◌}
use native.Mathlib.Omega.{arith}
use lib.Dec.{T, not_T, ltb, eqb, ltb→lt, lt→ltb, nltb→le, eqb→eq, eqb_refl}
use Rattle.records.specs.declared.line.Line.{Line}
use Rattle.records.specs.declared.line.Line.TheVariants.{Counted}
use Rattle.tesl.specs.Lists.{all, flat_map}
use Rattle.tesl.specs.Run.{Filled, ticks_at}
use Rattle.tesl.specs.Fits.{ticks_in, nth_tick, counted_at, Countdown, counted_from, left_of, left_by, run_countdowns}
use Rattle.theory.specs.Step.{misses, none_missed, next_countdowns}
use Rattle.tesl.proofs.Tests.{T→≡}
use Rattle.tesl.proofs.FormulaLists.{all_append, count-append, count-snoc}
use Rattle.theory.proofs.Lists.{F→≡, bool-ext, flat_map-append, flat_map-flat_map, by_later-snoc}

-- ---- one more instant

left-snoc : (later : List Filled) (f : Filled) (c : Countdown) → left_of (later ++ (f ∷ [])) c ≡ left_by (f ∷ []) (left_of later c)
left-snoc later f c = by-test (ltb m w) (ltb→lt m w) (nltb→le m w)
  where
    m : ℕ
    m = ticks_in c.on later

    e : ℕ
    e = ticks_in c.on (f ∷ [])

    k : ℕ
    k = ticks_in c.on (later ++ (f ∷ []))

    w : ℕ
    w = c.wanted

    sum : k ≡ m + e
    sum = count-append (λ (g : Filled). ticks_at g c.on) later (f ∷ [])

    wanting : ℕ → Countdown
    wanting n = record { clock = c.clock; on = c.on; wanted = n }

    by-test : (b : Bool) → (T b → m < w) → (T (not b) → w ≤ m) → cond (ltb k w) (wanting (w - k) ∷ []) [] ≡ left_by (f ∷ []) (cond b (wanting (w - m) ∷ []) [])
    by-test false l g =
        ap (λ (b : Bool). cond b (wanting (w - k) ∷ []) [])
        (F→≡ (ltb k w) (not_T (ltb k w) (λ t. let lt = ltb→lt k w t in let le = g tt in absurd (omega (arith, sum)))))
    by-test true l g =
        let lt = l tt in
        let test : ltb k w ≡ ltb e (w - m) =
        bool-ext (ltb k w) (ltb e (w - m)) (λ t. let u = ltb→lt k w t in lt→ltb e (w - m) (omega (arith, sum))) (λ t. let u = ltb→lt e (w - m) t in lt→ltb k w (omega (arith, sum))) in
        let less : w - k ≡ w - m - e = omega (arith, sum) in
        (λ i. cond (test i) (wanting (less i) ∷ []) []) ∙ sym (append-nil (cond (ltb e (w - m)) (wanting (w - m - e) ∷ []) []))

all-left-snoc : (later : List Filled) (f : Filled) (cs : List Countdown) → left_by (later ++ (f ∷ [])) cs ≡ left_by (f ∷ []) (left_by later cs)
all-left-snoc later f cs =
    ap (λ (g : Countdown → List Countdown). flat_map g cs) (fun_ext (λ c. left-snoc later f c)) ∙ sym (flat_map-flat_map (left_of (f ∷ [])) (left_of later) cs)

pub countdowns-snoc : (ls : List Line) (run : List Filled) (f : Filled) → run_countdowns ls (run ++ (f ∷ [])) ≡ next_countdowns ls f (run_countdowns ls run)
countdowns-snoc ls run f =
    by_later-snoc (λ g later. left_by later (flat_map (counted_from g) ls)) (left_by (f ∷ [])) refl (flat_map-append (left_of (f ∷ []))) f
    (λ g later. all-left-snoc later f (flat_map (counted_from g) ls)) run
    ∙ ap (λ (cs : List Countdown). left_by (f ∷ []) (run_countdowns ls run) ++ cs) (flat_map-flat_map (left_of []) (counted_from f) ls)

-- ---- line by line, for any test

four-and : (a b x y : Bool) → (a && b && (x && y)) ≡ (a && x && (b && y))
four-and true true x y = refl
four-and true false true y = refl
four-and true false false y = refl
four-and false b x y = refl

module _ (p : Countdown → Bool) where
  two-left : (later : List Filled) (xs ys : List Countdown) → all p (left_by later (xs ++ ys)) ≡ (all p (left_by later xs) && all p (left_by later ys))
  two-left later xs ys = ap (all p) (flat_map-append (left_of later) xs ys) ∙ all_append p (left_by later xs) (left_by later ys)

  pub one-more-line : (l : Line) (ls : List Line) (run : List Filled) → all p (run_countdowns (l ∷ ls) run) ≡ (all p (run_countdowns (l ∷ []) run) && all p (run_countdowns ls run))
  one-more-line l ls [] = refl
  one-more-line l ls (g ∷ later) =
      let xs = counted_from g l in
      let ys = flat_map (counted_from g) ls in
      let one = all p (left_by later xs) in
      let more = all p (left_by later ys) in
      let a = all p (run_countdowns (l ∷ []) later) in
      let b = all p (run_countdowns ls later) in
      all_append p (left_by later (xs ++ ys)) (run_countdowns (l ∷ ls) later)
      ∙ (λ i. two-left later xs ys i && one-more-line l ls later i)
      ∙ four-and one more a b
      ∙ sym (λ i.
      (all_append p (left_by later (xs ++ [])) (run_countdowns (l ∷ []) later) ∙ ap (λ (zs : List Countdown). all p (left_by later zs) && a) (append-nil xs)) i
      && all_append p (left_by later ys) (run_countdowns ls later) i)

  -- a line that begins none has none
  pub none-begun : (l : Line) → ((f : Filled) → counted_from f l ≡ []) → (run : List Filled) → all p (run_countdowns (l ∷ []) run) ≡ true
  none-begun l e [] = refl
  none-begun l e (g ∷ later) =
      all_append p (left_by later (counted_from g l ++ [])) (run_countdowns (l ∷ []) later)
      ∙ (λ i. all p (left_by later (e g i ++ [])) && none-begun l e later i)

-- ---- a counted line

-- where the last tick comes, the clock ticks
last-comes : (b d u v : Bool) → (T b → u ≡ v) → (not (b && u) || d) ≡ (not (b && v && not d) && true)
last-comes false d u v h = refl
last-comes true d u v h = ap (λ (z : Bool). not z || d) (h tt) ∙ by-test v d
  where
    by-test : (v d : Bool) → (not v || d) ≡ (not (v && not d) && true)
    by-test true true = refl
    by-test true false = refl
    by-test false d = refl

-- after the last tick nothing is asked
long-past : (b u d : Bool) → (T b → T u → ⊥) → (not (b && u) || d) ≡ true
long-past false u d h = refl
long-past true false d h = refl
long-past true true d h = absurd (h tt tt)

pub counted-asks : (A B D n : ℕ) (run : List Filled) (f : Filled) → counted_at A B D n run f ≡ none_missed f (run_countdowns (Counted A B D n ∷ []) run)
counted-asks A B D n [] f = refl
counted-asks A B D n (g ∷ between) f =
    (λ i. one (ticks_at g A) i && counted-asks A B D n between f i)
    ∙ sym (all_append kept (left_by between (counted_from g (Counted A B D n) ++ [])) (run_countdowns (Counted A B D n ∷ []) between))
  where
    kept : Countdown → Bool
    kept c = not (misses f c)

    wanting : ℕ → Countdown
    wanting k = record { clock = D; on = B; wanted = k }

    b : Bool
    b = ticks_at f B

    d : Bool
    d = ticks_at f D

    m : ℕ
    m = ticks_in B between

    k : ℕ
    k = ticks_in B (between ++ (f ∷ []))

    one_more : T b → k ≡ 1 + m
    one_more t = count-snoc (λ (h : Filled). ticks_at h B) between f ∙ ap (λ (x : Bool). cond x 1 0 + m) (T→≡ b t)

    by-test : (x : Bool) → (T x → m < n) → (T (not x) → n ≤ m) → (not (b && eqb k n) || d) ≡ all kept (cond x (wanting (n - m) ∷ []) [] ++ [])
    by-test true l h = last-comes b d (eqb k n) (eqb (n - m) 1) (λ t.
        let lt = l tt in
        let e = one_more t in
        bool-ext (eqb k n) (eqb (n - m) 1)
        (λ u. let q = eqb→eq k n u in let r : n - m ≡ 1 = omega arith in subst (λ (z : ℕ). T (eqb (n - m) z)) r (eqb_refl (n - m)))
        (λ u. let q = eqb→eq (n - m) 1 u in let r : k ≡ n = omega arith in subst (λ (z : ℕ). T (eqb k z)) r (eqb_refl k)))
    by-test false l h = long-past b (eqb k n) d (λ t u. let le = h tt in let e = one_more t in let q = eqb→eq k n u in absurd (omega arith))

    one : (a : Bool) → (not (a && nth_tick B n between f) || d) ≡ all kept (left_by between (cond a (wanting n ∷ []) [] ++ []))
    one true = by-test (ltb m n) (ltb→lt m n) (nltb→le m n)
    one false = refl
