-- What a kind of line owes the theorems about steps: the five parts of its law; and each part for the kinds that have nothing of it. Assumes nothing.
use mathlib.Core.Bool.{Bool, true, false, not, ◌||◌}
use mathlib.Core.List.{List, [], ◌∷◌, ◌++◌}
use mathlib.Core.Path.{◌≡◌, sym, ◌∙◌, subst}
use Prim.Native.Nat.{ℕ, suc, ◌≤◌, ◌<◌}
use native.Mathlib.Omega.{arith}
use lib.Dec.{T, leb}
use lib.IntN.{ℤ}
use lib.ListN.{length}
use Rattle.records.specs.declared.line.Line.{Line}
use Rattle.records.specs.Line.{is_sporadic, kind_of, of_precedes}
use Rattle.records.specs.Types.{IsTag, IsLineValue}
use Rattle.tesl.specs.Lists.{all}
use Rattle.tesl.specs.Run.{Filled, ticks_at, tag_at}
use Rattle.tesl.specs.Fits.{ticks_in, holds_at, most_tag, Obligation, owed_at_start, owed_from, counted_from, run_countdowns}
use Rattle.tesl.specs.Remainder.{lead_of, stops}
use Rattle.theory.specs.Step.{bit, line_ok, next_lead, misses, none_missed, started_by, line_below}
use Rattle.theory.specs.Limits.{due_ok, clocks_ok, countdown_ok}
use Rattle.theory.proofs.Countdowns.{none-begun}

-- a precedes line's B has not ticked more often than its A, so that its lead is a difference
abbrev pub ordered : List Filled → Line → Bool
ordered run l = of_precedes true (λ A B. leb (ticks_in B run) (ticks_in A run)) l

-- ---- the line's lead
pub record Leads (l : Line) : Type 0 where
  pub at-start : T (ordered [] l)
  pub none : lead_of [] l ≡ 0
  pub stays : (run : List Filled) (f : Filled) → T (holds_at l run f) → T (ordered (run ++ (f ∷ [])) l)
  pub after : (run : List Filled) (f : Filled) → T (ordered run l) → lead_of (run ++ (f ∷ [])) l ≡ next_lead f l (lead_of run l)
  pub grows : (f : Filled) (n held : ℕ) → n ≤ held → next_lead f l n ≤ suc held

-- ---- the clocks that it has stopped
pub record Stops (l : Line) : Type 0 where
  pub after : (run : List Filled) (f : Filled) (k : ℕ) → stops (run ++ (f ∷ [])) k l ≡ (stops run k l || stops (f ∷ []) k l)
  pub below : (run : List Filled) (c k : ℕ) → T (line_below c l) → T (stops run k l) → k < c
  pub quiet : (run : List Filled) (f : Filled) (k : ℕ) → T (holds_at l run f) → T (stops run k l) → T (ticks_at f k) → ⊥

-- ---- its obligations: how many from the start, their clocks, and their dues, from a tag on and on the scale
pub record Owes (l : Line) : Type 0 where
  pub start-number : length (owed_at_start l) ≤ bit (is_sporadic (kind_of l))
  pub start-clocks : (c : ℕ) → T (line_below c l) → T (all (clocks_ok c) (owed_at_start l))
  pub begun-clocks : (most : ℤ) (c : ℕ) (f : Filled) → T (line_below c l) → T (all (clocks_ok c) (owed_from most f l))
  pub start-dues : IsLineValue l → T (all (λ (o : Obligation). due_ok most_tag o.due) (owed_at_start l))
  pub begun-dues : (most : ℤ) (f : Filled) → ((k : ℕ) → IsTag (tag_at f k)) → T (all (λ (o : Obligation). due_ok most o.due) (owed_from most f l))

-- ---- its countdowns: where it holds none is missed; their clocks, and 1 to 255 wanted
pub record Counts (l : Line) : Type 0 where
  pub none-missed : (run : List Filled) (f : Filled) → T (holds_at l run f) → T (none_missed f (run_countdowns (l ∷ []) run))
  pub begun-limits : (c : ℕ) (f : Filled) → T (line_below c l) → IsLineValue l → T (all (countdown_ok c) (started_by f l))

-- ---- the step asks of it what the definition asks, where no clock that it has stopped ticks and none of its countdowns is missed
pub record Judged (l : Line) : Type 0 where
  pub asks : (run : List Filled) (f : Filled) → T (ordered run l) → T (holds_at l run f) → T (line_ok f l (lead_of run l))
  pub suffices : (run : List Filled) (f : Filled) → ((k : ℕ) → T (stops run k l) → T (ticks_at f k) → ⊥) → T (none_missed f (run_countdowns (l ∷ []) run)) → T (ordered run l)
      → T (line_ok f l (lead_of run l)) → T (holds_at l run f)

pub record Law (l : Line) : Type 0 where
  pub leads : Leads l
  pub stops : Stops l
  pub owes : Owes l
  pub counts : Counts l
  pub judged : Judged l

-- ---- a kind without the part
pub no_lead : (l : Line) → ((run : List Filled) → ordered run l ≡ true) → ((run : List Filled) → lead_of run l ≡ 0)
    → ((f : Filled) (n : ℕ) → next_lead f l n ≡ 0) → Leads l
no_lead l o e z = record {
  at-start = subst T (sym (o [])) tt;
  none = e [];
  stays = λ run f h. subst T (sym (o (run ++ (f ∷ [])))) tt;
  after = λ run f h. e (run ++ (f ∷ [])) ∙ sym (z f (lead_of run l));
  grows = λ f n held h. omega (arith, z f n);
}

pub no_stop : (l : Line) → ((run : List Filled) (k : ℕ) → stops run k l ≡ false) → Stops l
no_stop l e = record {
  after = λ run f k. rw (e (run ++ (f ∷ [])) k, e run k, e (f ∷ []) k);
  below = λ run c k w t. absurd (subst T (e run k) t);
  quiet = λ run f k h t u. subst T (e run k) t;
}

pub no-owed : (l : Line) → owed_at_start l ≡ [] → ((most : ℤ) (f : Filled) → owed_from most f l ≡ []) → Owes l
no-owed l e g = record {
  start-number = rw e (omega arith);
  start-clocks = λ c w. rw e tt;
  begun-clocks = λ most c f w. rw (g most f) tt;
  start-dues = λ v. rw e tt;
  begun-dues = λ most f t. rw (g most f) tt;
}

pub no-count : (l : Line) → ((f : Filled) → counted_from f l ≡ []) → Counts l
no-count l e = record {
  none-missed = λ run f h. subst T (sym (none-begun (λ c. not (misses f c)) l e run)) tt;
  begun-limits = λ c f w v. rw (e f) tt;
}

pub by-instant : (l : Line) → ((run : List Filled) (f : Filled) → line_ok f l (lead_of run l) ≡ holds_at l run f) → Judged l
by-instant l e = record {
  asks = λ run f o h. subst T (sym (e run f)) h;
  suffices = λ run f q m o h. subst T (e run f) h;
}
