-- An unseen tick that no line, no obligation held and no countdown held names may count as idle: a filling with it makes of the remainders held what the filling without it does, or is barred, and what was found once is not found again. Assumes nothing.
use mathlib.Core.Bool.{Bool, true, false, not, cond, ◌&&◌, beq, or-true, true≢false}
use mathlib.Core.List.{List, [], ◌∷◌, ◌++◌, map}
use mathlib.Core.Logic.{◌⊎◌, inl, inr, ⊎_elim}
use mathlib.Core.Option.{Option, none, some}
use mathlib.Core.Path.{◌≡◌, refl, sym, ap, ◌∙◌}
use Prim.Native.Nat.{ℕ, zero, suc, ◌+◌, ◌<◌}
use native.Mathlib.Omega.{arith}
use lib.Dec.{T, eqb, ltb, eqb_refl, eqb→eq}
use lib.IntN.{ℤ}
use lib.ListN.{length, get_or, set, replicate, length-append}
use lib.Seq.{get_or-set_other, set_comm}
use borrow.Author.Tests.{eq-eqb}
use Rattle.records.specs.declared.instant.Tick.{Tick}
use Rattle.records.specs.declared.instant.Tick.TheVariants.{Idle, Ticks, Unseen}
use Rattle.records.specs.declared.line.Line.{Line}
use Rattle.records.specs.declared.line.Line.TheVariants.{Sporadic, Relation, Implies, Excludes, Delayed, Weakly, Strictly, Kills, Counted}
use Rattle.records.specs.Sheet.{SheetValue}
use Rattle.records.specs.Types.{All}
use Rattle.records.proofs.Lists.{neither}
use Rattle.tesl.specs.Lists.{all, any, flat_map, within, same_list}
use Rattle.tesl.specs.Run.{Filled}
use Rattle.tesl.specs.Fits.{most_tag, Obligation, owed_from, Countdown, counted_from, left_by}
use Rattle.tesl.specs.Remainder.{Remainder, same_obligation, same_countdown, same_remainder}
use Rattle.tesl.proofs.Tests.{and_l, and_r, and_i, or_l, or_r, or-e, T→≡, ≡→T}
use Rattle.theory.specs.Step.{overlap, lines_ok, next_leads, none_missed, begun_countdowns}
use Rattle.theory.proofs.Lists.{any_append, any_snoc}
use Rattle.theory.proofs.Respect.{remainder-equivalence}
use Rattle.theory.specs.Adding.{added_to}
use Rattle.work.specs.Advanced.{Advanced, fails, over, onto}
use Rattle.work.specs.View.{filled_of, held_list, is_none}
use Rattle.work.specs.Questions.{tick_in, ticks_hold, carried_holds, lead_after, stopped_after}
use Rattle.work.specs.Lines.{all_stopped}
use Rattle.work.specs.Owed.{Owings, owing, begun_by, added_all, added_countdowns, left, still_owed, still_counting, together}
use Rattle.work.specs.Relevant.{named_by, count_clocks, awaited_clocks, flagged, is_relevant, tick_if_relevant, relevant_only}
use Rattle.work.specs.Work.{carried, with_begun, with_still_owed, advanced, same_counted, inserted, took, all_advanced, filling, fill_from}

abbrev Found : Type 0
Found = Option (List Remainder)

-- ---- outcomes found again
counted-self : (x : Remainder) → T (same_counted x x)
unfolding same_counted same_remainder
counted-self x =
    let t = remainder-equivalence.reflex x in
    let l = same_list eqb x.leads x.leads in
    let s = same_list beq x.stopped x.stopped in
    let w = within same_obligation x.owed x.owed in
    let u = within same_countdown x.countdowns x.countdowns in
    let sets = (w && w) && (u && u) in
    let t₁ = and_r l (s && sets) t in
    let t₂ = and_r s sets t₁ in
    let c = eqb (length x.owed) (length x.owed) in
    let d = eqb (length x.countdowns) (length x.countdowns) in
    and_i ((c && w) && (d && u)) (s && l)
    (and_i (c && w) (d && u) (and_i c w (eqb_refl (length x.owed)) (and_l w w (and_l (w && w) (u && u) t₂))) (and_i d u (eqb_refl (length x.countdowns)) (and_l u u (and_r (w && w) (u && u) t₂))))
    (and_i s l (and_l s sets t₁) (and_l l (s && sets) t))

module _ (room : ℕ) where
  -- those found with one more, by whether it is there and whether there is room
  abbrev with-one : Bool → Bool → List Remainder → Remainder → Found
  with-one t u rs x = cond t (some rs) (cond u (some (rs ++ (x ∷ []))) none)

  there : (x : Remainder) (rs : List Remainder) → any (same_counted x) rs ≡ true → inserted room (some rs) x ≡ some rs
  unfolding inserted added_to
  there x rs e = rw e

  found-there : (x : Remainder) (rs : List Remainder) → inserted room (some rs) x ≡ some rs → any (same_counted x) rs ≡ true
  unfolding inserted added_to
  found-there x rs h = by_tests (any (same_counted x) rs) (ltb (length rs) room) h
    where
      by_tests : (t u : Bool) → with-one t u rs x ≡ some rs → t ≡ true
      by_tests true u h = refl
      by_tests false true h = absurd (omega (arith, length-append rs (x ∷ []), ap (λ (q : Found). length (held_list q)) h))
      by_tests false false h = absurd (true≢false (ap is_none h))

  pub took-none : (a : Advanced) → took room none a ≡ none
  unfolding inserted added_to
  took-none fails = refl
  took-none over = refl
  took-none (onto x) = refl

  -- an outcome that leaves p as it is leaves q as it is
  abbrev Holds : Found → Found → Type 0
  Holds p q = (a : Advanced) → took room p a ≡ p → took room q a ≡ q

  more-hold : (rs : List Remainder) (x : Remainder) → Holds (some rs) (some (rs ++ (x ∷ [])))
  more-hold rs x fails h = refl
  more-hold rs x over h = absurd (true≢false (ap is_none h))
  more-hold rs x (onto y) h = there y (rs ++ (x ∷ [])) (any_snoc (same_counted y) rs x ∙ rw (found-there y rs h))

  took-holds : (p : Found) (a : Advanced) → Holds p (took room p a)
  unfolding inserted added_to
  took-holds none a b h = ap (λ (q : Found). took room q b) (took-none a) ∙ took-none b ∙ sym (took-none a)
  took-holds (some rs) fails b h = h
  took-holds (some rs) over b h = took-none b
  took-holds (some rs) (onto x) b h = by_tests (any (same_counted x) rs) (ltb (length rs) room)
    where
      by_tests : (t u : Bool) → took room (with-one t u rs x) b ≡ with-one t u rs x
      by_tests true u = h
      by_tests false true = more-hold rs x b h
      by_tests false false = took-none b

  took-again : (p : Found) (a : Advanced) → took room (took room p a) a ≡ took room p a
  unfolding inserted added_to
  took-again none a = ap (λ (q : Found). took room q a) (took-none a)
  took-again (some rs) fails = refl
  took-again (some rs) over = refl
  took-again (some rs) (onto x) = by_tests (any (same_counted x) rs) (ltb (length rs) room) refl
    where
      by_tests : (t u : Bool) → any (same_counted x) rs ≡ t → inserted room (with-one t u rs x) x ≡ with-one t u rs x
      by_tests true u e = there x rs e
      by_tests false true e = there x (rs ++ (x ∷ [])) (any_snoc (same_counted x) rs x ∙ rw (T→≡ (same_counted x x) (counted-self x)) (or-true (any (same_counted x) rs)))
      by_tests false false e = refl

  -- a step that takes outcomes: what was held before it is held after it
  abbrev Taking : (Found → Found) → Type 0
  Taking go = (p : Found) → Holds p (go p)

  take-both : (f g : Found → Found) → Taking f → Taking g → Taking (λ p. g (f p))
  take-both f g a b p o h = b (f p) o (a p o h)

  module _ (v : SheetValue) where
    all-advanced-takes : (f : Filled) (begun : Owings) (rs : List Remainder) → Taking (all_advanced room v f begun rs)
    unfolding all_advanced
    all-advanced-takes f begun [] = λ p o h. h
    all-advanced-takes f begun (r ∷ rs) = take-both (λ p. took room p (advanced v f begun r)) (all_advanced room v f begun rs) (λ p. took-holds p (advanced v f begun r)) (all-advanced-takes f begun rs)

    filling-takes : (tags : List ℤ) (rs : List Remainder) (ticks : List Bool) → Taking (λ p. filling room v tags rs p ticks)
    unfolding filling
    filling-takes tags rs ticks = by-test (all (ticks_hold ticks) v.lines)
      where
        begun : Owings
        begun = begun_by most_tag v.lines (filled_of ticks tags)

        by-test : (b : Bool) → Taking (λ p. cond b (all_advanced room v (filled_of ticks tags) begun rs p) p)
        by-test true = all-advanced-takes (filled_of ticks tags) begun rs
        by-test false = λ p o h. h

  -- ---- fillings, where those of a clock that p doesn't heed do as one
  module _ (g : Found → List Bool → Found) (takes : (ticks : List Bool) → Taking (λ p. g p ticks)) where
    fill-takes : (k : ℕ) (seen : List Tick) (ticks : List Bool) → Taking (fill_from g k seen ticks)
    fill-takes k [] ticks = takes ticks
    fill-takes k (Idle ∷ seen) ticks = fill-takes (k + 1) seen ticks
    fill-takes k (Ticks ∷ seen) ticks = fill-takes (k + 1) seen (set ticks k true)
    fill-takes k (Unseen ∷ seen) ticks =
        take-both (fill_from g (k + 1) seen ticks) (fill_from g (k + 1) seen (set ticks k true)) (fill-takes (k + 1) seen ticks) (fill-takes (k + 1) seen (set ticks k true))

    -- a tick of clock k finds nothing that is not found without it
    abbrev Ignores : ℕ → Type 0
    Ignores k = (p q : Found) (ticks : List Bool) → Holds (g p ticks) q → g q (set ticks k true) ≡ q

    fill-ignores : (k j : ℕ) → k < j → Ignores k → (seen : List Tick) (ticks : List Bool) (p q : Found) → Holds (fill_from g j seen ticks p) q → fill_from g j seen (set ticks k true) q ≡ q
    fill-ignores k j h e [] ticks p q t = e p q ticks t
    fill-ignores k j h e (Idle ∷ seen) ticks p q t = fill-ignores k (j + 1) (omega arith) e seen ticks p q t
    fill-ignores k j h e (Ticks ∷ seen) ticks p q t =
        ap (λ (b : List Bool). fill_from g (j + 1) seen b q) (set_comm ticks k j true true (λ z. absurd (omega arith)))
        ∙ fill-ignores k (j + 1) (omega arith) e seen (set ticks j true) p q t
    fill-ignores k j h e (Unseen ∷ seen) ticks p q t =
        let before = fill_from g (j + 1) seen ticks p in
        ap (λ (b : List Bool). fill_from g (j + 1) seen b (fill_from g (j + 1) seen (set ticks k true) q)) (set_comm ticks k j true true (λ z. absurd (omega arith)))
        ∙ ap (fill_from g (j + 1) seen (set (set ticks j true) k true)) (fill-ignores k (j + 1) (omega arith) e seen ticks p q (λ a u. t a (fill-takes (j + 1) seen (set ticks j true) before a u)))
        ∙ fill-ignores k (j + 1) (omega arith) e seen (set ticks j true) before q t

    module _ (p : ℕ → Bool) (ignores : (k : ℕ) → p k ≡ false → Ignores k) where
      abbrev Alike : ℕ → List Tick → List Tick → Type 0
      Alike k left seen = (ticks : List Bool) (found : Found) → fill_from g k seen ticks found ≡ fill_from g k left ticks found

      by_flag : (b : Bool) (k : ℕ) → p k ≡ b → (t : Tick) (left seen : List Tick) → Alike (k + 1) left seen → Alike k (tick_if_relevant b t ∷ left) (t ∷ seen)
      by_flag true k e Idle left seen ih ticks found = ih ticks found
      by_flag false k e Idle left seen ih ticks found = ih ticks found
      by_flag true k e Ticks left seen ih ticks found = ih (set ticks k true) found
      by_flag false k e Ticks left seen ih ticks found = ih (set ticks k true) found
      by_flag true k e Unseen left seen ih ticks found = ih (set ticks k true) (fill_from g (k + 1) seen ticks found) ∙ ap (fill_from g (k + 1) left (set ticks k true)) (ih ticks found)
      by_flag false k e Unseen left seen ih ticks found =
          fill-ignores k (k + 1) (omega arith) (ignores k e) seen ticks found (fill_from g (k + 1) seen ticks found) (λ a h. h) ∙ ih ticks found

      fill-relevant : (k : ℕ) (seen : List Tick) → Alike k (relevant_only p k seen) seen
      fill-relevant k [] ticks found = refl
      fill-relevant k (t ∷ seen) ticks found = by_flag (p k) k refl t (relevant_only p (k + 1) seen) seen (fill-relevant (k + 1) seen) ticks found

-- ---- lines, obligations and countdowns that don't name clock k don't tell ticks t and u apart
module _ (k : ℕ) (t u : List Bool) (e : (a : ℕ) → eqb k a ≡ false → tick_in u a ≡ tick_in t a) where
  record Same (l : Line) : Type 0 where
    pub rule : ticks_hold u l ≡ ticks_hold t l
    pub holds : (lead : ℕ) → carried_holds u l lead ≡ carried_holds t l lead
    pub begun : (most : ℤ) (tags : List ℤ) → owed_from most (filled_of u tags) l ≡ owed_from most (filled_of t tags) l
    pub counts : (tags : List ℤ) → counted_from (filled_of u tags) l ≡ counted_from (filled_of t tags) l
    pub lead : (n : ℕ) → lead_after u l n ≡ lead_after t l n
    pub stop : (stopped : List Bool) → stopped_after u l stopped ≡ stopped_after t l stopped

  module _ (A B : ℕ) (h : any (eqb k) (A ∷ B ∷ []) ≡ false) where
    one : tick_in u A ≡ tick_in t A
    one = e A (neither (eqb k A) h).0

    two : tick_in u B ≡ tick_in t B
    two = e B (neither (eqb k B) (neither (eqb k A) h).1).0

  same : (l : Line) → any (eqb k) (named_by l) ≡ false → Same l
  same (Implies A B) h = record { rule = rw (one A B h, two A B h); holds = λ n. refl; begun = λ most tags. refl; counts = λ tags. refl; lead = λ n. refl; stop = λ s. refl }
  same (Excludes A B) h = record { rule = rw (one A B h, two A B h); holds = λ n. refl; begun = λ most tags. refl; counts = λ tags. refl; lead = λ n. refl; stop = λ s. refl }
  same (Weakly A B) h = record { rule = refl; holds = λ n. rw (one A B h, two A B h); begun = λ most tags. refl; counts = λ tags. refl; lead = λ n. rw (one A B h, two A B h); stop = λ s. refl }
  same (Strictly A B) h = record { rule = refl; holds = λ n. rw (two A B h); begun = λ most tags. refl; counts = λ tags. refl; lead = λ n. rw (one A B h, two A B h); stop = λ s. refl }
  same (Kills A B) h = record { rule = rw (one A B h, two A B h); holds = λ n. refl; begun = λ most tags. refl; counts = λ tags. refl; lead = λ n. refl; stop = λ s. rw (one A B h) }
  same (Delayed A B D d) h = record { rule = refl; holds = λ n. refl; begun = λ most tags. rw (e A (neither (eqb k A) h).0); counts = λ tags. refl; lead = λ n. refl; stop = λ s. refl }
  same (Counted A B D n) h = record { rule = refl; holds = λ n. refl; begun = λ most tags. refl; counts = λ tags. rw (e A (neither (eqb k A) h).0); lead = λ n. refl; stop = λ s. refl }
  same (Sporadic A B d) h = record { rule = refl; holds = λ n. refl; begun = λ most tags. refl; counts = λ tags. refl; lead = λ n. refl; stop = λ s. refl }
  same (Relation A B p q) h = record { rule = refl; holds = λ n. refl; begun = λ most tags. refl; counts = λ tags. refl; lead = λ n. refl; stop = λ s. refl }

  same-all : (ls : List Line) → any (eqb k) (flat_map named_by ls) ≡ false → All Same ls
  same-all [] h = tt
  same-all (l ∷ ls) h = let n = neither (any (eqb k) (named_by l)) (sym (any_append (eqb k) (named_by l) (flat_map named_by ls)) ∙ h) in (same l n.0, same-all ls n.1)

  rules-same : (ls : List Line) → All Same ls → all (ticks_hold u) ls ≡ all (ticks_hold t) ls
  rules-same [] h = refl
  rules-same (l ∷ ls) h = rw (h.0.rule, rules-same ls h.1)

  holds_same : (ls : List Line) (leads : List ℕ) → All Same ls → lines_ok (carried_holds u) ls leads ≡ lines_ok (carried_holds t) ls leads
  holds_same [] leads h = refl
  holds_same (l ∷ ls) [] h = rw (h.0.holds 0, holds_same ls [] h.1)
  holds_same (l ∷ ls) (n ∷ leads) h = rw (h.0.holds n, holds_same ls leads h.1)

  begun-same : (most : ℤ) (tags : List ℤ) (ls : List Line) → All Same ls → flat_map (owed_from most (filled_of u tags)) ls ≡ flat_map (owed_from most (filled_of t tags)) ls
  begun-same most tags [] h = refl
  begun-same most tags (l ∷ ls) h = rw (h.0.begun most tags, begun-same most tags ls h.1)

  counted_same : (tags : List ℤ) (ls : List Line) → All Same ls → begun_countdowns ls (filled_of u tags) ≡ begun_countdowns ls (filled_of t tags)
  counted_same tags [] h = refl
  counted_same tags (l ∷ ls) h = rw (h.0.counts tags, counted_same tags ls h.1)

  leads-same : (ls : List Line) (leads : List ℕ) → All Same ls → next_leads (lead_after u) ls leads ≡ next_leads (lead_after t) ls leads
  leads-same [] leads h = refl
  leads-same (l ∷ ls) [] h = rw (h.0.lead 0, leads-same ls [] h.1)
  leads-same (l ∷ ls) (n ∷ leads) h = rw (h.0.lead n, leads-same ls leads h.1)

  stopped-same : (ls : List Line) (stopped : List Bool) → All Same ls → all_stopped u ls stopped ≡ all_stopped t ls stopped
  stopped-same [] stopped h = refl
  stopped-same (l ∷ ls) stopped h = rw (h.0.stop stopped) (stopped-same ls (stopped_after t l stopped) h.1)

  left-same : (tags : List ℤ) (os : List Obligation) → any (eqb k) (map (λ (o : Obligation). o.clock) os) ≡ false → left (filled_of u tags) os ≡ left (filled_of t tags) os
  left-same tags [] h = refl
  left-same tags (o ∷ os) h = let n = neither (eqb k o.clock) h in rw (e o.clock n.0, left-same tags os n.1)

  counting-same : (tags : List ℤ) (cs : List Countdown) → any (eqb k) (flat_map count_clocks cs) ≡ false → still_counting (filled_of u tags) cs ≡ still_counting (filled_of t tags) cs
  unfolding still_counting
  counting-same tags cs h = λ i. cond ((each cs h).0 i) (some ((each cs h).1 i)) none
    where
      each : (cs : List Countdown) → any (eqb k) (flat_map count_clocks cs) ≡ false
          → (none_missed (filled_of u tags) cs ≡ none_missed (filled_of t tags) cs) × (left_by (filled_of u tags ∷ []) cs ≡ left_by (filled_of t tags ∷ []) cs)
      each [] h = (refl, refl)
      each (c ∷ cs) h =
          let n = neither (eqb k c.clock) h in
          let m = neither (eqb k c.on) n.1 in
          let r = each cs m.1 in
          (rw (e c.clock n.0, e c.on m.0, r.0), rw (e c.on m.0, r.1))

  module _ (v : SheetValue) (h : All Same v.lines) (tags : List ℤ) where
    carried_same : (r : Remainder) → carried v u r ≡ carried v t r
    carried_same r = rw (leads-same v.lines r.leads h, stopped-same v.lines r.stopped h)

    with-begun : (r : Remainder) (q : Option Owings) → with_begun v u r q ≡ with_begun v t r q
    with-begun r none = refl
    with-begun r (some w) = ap onto (carried_same (owing w r))

    with-still-owed : (begun : Owings) (r : Remainder) (q : Option Owings) → with_still_owed v u begun r q ≡ with_still_owed v t begun r q
    with-still-owed begun r none = refl
    with-still-owed begun r (some w) = with-begun r (together (added_all begun.owed w.owed) (added_countdowns begun.countdowns w.countdowns))

    -- where a clock stopped that ticks in t ticks in u: a remainder is barred by u, or becomes what it becomes by t
    module _ (more : (stopped : List Bool) → T (overlap t stopped) → T (overlap u stopped)) where
      advanced-same : (begun : Owings) (r : Remainder) → any (eqb k) (awaited_clocks r) ≡ false
          → (advanced v (filled_of u tags) begun r ≡ fails) ⊎ (advanced v (filled_of u tags) begun r ≡ advanced v (filled_of t tags) begun r)
      unfolding advanced still_owed
      advanced-same begun r n = by_tests (overlap u r.stopped) (overlap t r.stopped) (more r.stopped)
        where
          left_after : List Bool → Remainder → Option Owings
          left_after ticks r = together (still_owed (filled_of ticks tags) r.owed) (still_counting (filled_of ticks tags) r.countdowns)

          parts : (any (eqb k) (map (λ (o : Obligation). o.clock) r.owed) ≡ false) × (any (eqb k) (flat_map count_clocks r.countdowns) ≡ false)
          parts = neither (any (eqb k) (map (λ (o : Obligation). o.clock) r.owed)) (sym (any_append (eqb k) (map (λ (o : Obligation). o.clock) r.owed) (flat_map count_clocks r.countdowns)) ∙ n)

          by_tests : (a b : Bool) → (T b → T a)
              → (cond (not a && lines_ok (carried_holds u) v.lines r.leads) (with_still_owed v u begun r (left_after u r)) fails ≡ fails)
              ⊎ (cond (not a && lines_ok (carried_holds u) v.lines r.leads) (with_still_owed v u begun r (left_after u r)) fails
              ≡ cond (not b && lines_ok (carried_holds t) v.lines r.leads) (with_still_owed v t begun r (left_after t r)) fails)
          by_tests true b h = inl refl
          by_tests false true h = absurd (h tt)
          by_tests false false m = inr (rw (holds_same v.lines r.leads h, left-same tags r.owed parts.0, counting-same tags r.countdowns parts.1, with-still-owed begun r (left_after t r)))

      all-advanced-less : (room : ℕ) (begun : Owings) (rs : List Remainder) (p q : Found) → any (eqb k) (flat_map awaited_clocks rs) ≡ false
          → Holds room (all_advanced room v (filled_of t tags) begun rs p) q → all_advanced room v (filled_of u tags) begun rs q ≡ q
      unfolding all_advanced
      all-advanced-less room begun [] p q n w = refl
      all-advanced-less room begun (r ∷ rs) p q n w =
          let m = neither (any (eqb k) (awaited_clocks r)) (sym (any_append (eqb k) (awaited_clocks r) (flat_map awaited_clocks rs)) ∙ n) in
          let a = advanced v (filled_of t tags) begun r in
          let there : took room q a ≡ q = w a (all-advanced-takes room v (filled_of t tags) begun rs (took room p a) a (took-again room p a)) in
          ap (all_advanced room v (filled_of u tags) begun rs) (⊎_elim (λ z. ap (took room q) z) (λ z. ap (took room q) z ∙ there) (advanced-same begun r m.0))
          ∙ all-advanced-less room begun rs (took room p a) q m.1 w

      filling-less : (room : ℕ) (rs : List Remainder) (p q : Found) → any (eqb k) (flat_map awaited_clocks rs) ≡ false → Holds room (filling room v tags rs p t) q → filling room v tags rs q u ≡ q
      unfolding filling
      filling-less room rs p q n w = rw (rules-same v.lines h, begun-same most_tag tags v.lines h, counted_same tags v.lines h) (by-test (all (ticks_hold t) v.lines) w)
        where
          begun : Owings
          begun = begun_by most_tag v.lines (filled_of t tags)

          by-test : (b : Bool) → Holds room (cond b (all_advanced room v (filled_of t tags) begun rs p) p) q → cond b (all_advanced room v (filled_of u tags) begun rs q) q ≡ q
          by-test true w = all-advanced-less room begun rs p q n w
          by-test false w = refl

-- one more tick
overlap-more : (xs ys : List Bool) (k : ℕ) → T (overlap xs ys) → T (overlap (set xs k true) ys)
overlap-more [] ys k t = t
overlap-more (x ∷ xs) [] k t = absurd t
overlap-more (x ∷ xs) (y ∷ ys) zero t = or-e (x && y) (overlap xs ys) t (λ u. or_l y (overlap xs ys) (and_r x y u)) (or_r y (overlap xs ys))
overlap-more (x ∷ xs) (y ∷ ys) (suc k) t =
    or-e (x && y) (overlap xs ys) t (or_l (x && y) (overlap (set xs k true) ys)) (λ u. or_r (x && y) (overlap (set xs k true) ys) (overlap-more xs ys k u))

-- ---- the clocks with a flag
set-stays : (flags : List Bool) (a k : ℕ) → get_or flags k true ≡ true → get_or (set flags a true) k true ≡ true
set-stays [] a k h = h
set-stays (b ∷ flags) zero zero h = refl
set-stays (b ∷ flags) zero (suc k) h = h
set-stays (b ∷ flags) (suc a) zero h = h
set-stays (b ∷ flags) (suc a) (suc k) h = set-stays flags a k h

set_here : (flags : List Bool) (k : ℕ) → get_or (set flags k true) k true ≡ true
set_here [] k = refl
set_here (b ∷ flags) zero = refl
set_here (b ∷ flags) (suc k) = set_here flags k

flags-stay : (ks : List ℕ) (flags : List Bool) (k : ℕ) → get_or flags k true ≡ true → get_or (flagged ks flags) k true ≡ true
flags-stay [] flags k h = h
flags-stay (a ∷ ks) flags k h = flags-stay ks (set flags a true) k (set-stays flags a k h)

-- a clock without a flag is not among those that were given one, and had none before
unflagged : (ks : List ℕ) (flags : List Bool) (k : ℕ) → get_or (flagged ks flags) k true ≡ false → (any (eqb k) ks ≡ false) × (get_or flags k true ≡ false)
unflagged ks flags k h = (none_of ks flags h, by_flag (get_or flags k true) (flags-stay ks flags k))
  where
    by_flag : (b : Bool) → (b ≡ true → get_or (flagged ks flags) k true ≡ true) → b ≡ false
    by_flag true f = absurd (true≢false (sym (f refl) ∙ h))
    by_flag false f = refl

    none_of : (ks : List ℕ) (flags : List Bool) → get_or (flagged ks flags) k true ≡ false → any (eqb k) ks ≡ false
    none_of [] flags h = refl
    none_of (a ∷ ks) flags h = rw (other (eqb k a) (λ t. eqb→eq k a (≡→T t)), none_of ks (set flags a true) h)
      where
        other : (b : Bool) → (b ≡ true → k ≡ a) → b ≡ false
        other true f = absurd (true≢false (sym (flags-stay ks (set flags a true) k (ap (λ (j : ℕ). get_or (set flags j true) k true) (sym (f refl)) ∙ set_here flags k)) ∙ h))
        other false f = refl

-- ---- an instant, where the remainders held owe a tick of these clocks
module _ (room : ℕ) (v : SheetValue) (tags : List ℤ) (rs : List Remainder) {owed : List ℕ} (e : flat_map awaited_clocks rs ≡ owed) where
  ignores : (k : ℕ) → is_relevant v.lines owed k ≡ false → Ignores room (filling room v tags rs) (filling-takes room v tags rs) k
  ignores k h p q ticks w =
      let named = flagged (flat_map named_by v.lines) (replicate 8 false) in
      let by-owed = unflagged owed named k h in
      let by_lines = unflagged (flat_map named_by v.lines) (replicate 8 false) k by-owed.1 in
      let other : (a : ℕ) → eqb k a ≡ false → tick_in (set ticks k true) a ≡ tick_in ticks a = λ a d. get_or-set_other ticks k a true false (λ z. true≢false (sym (eq-eqb k a (sym z)) ∙ d)) in
      filling-less k ticks (set ticks k true) other v (same-all k ticks (set ticks k true) other v.lines by_lines.0) tags (λ stopped. overlap-more ticks stopped k) room rs p q
      (ap (any (eqb k)) e ∙ by-owed.0) w

  pub relevant-enough : (seen : List Tick) (ticks : List Bool) (found : Found)
      → fill_from (filling room v tags rs) 0 seen ticks found ≡ fill_from (filling room v tags rs) 0 (relevant_only (is_relevant v.lines owed) 0 seen) ticks found
  relevant-enough seen ticks found = fill-relevant room (filling room v tags rs) (filling-takes room v tags rs) (is_relevant v.lines owed) ignores 0 seen ticks found
