-- What an instant makes of the remainders held, in the order in which the monitor works: `none` once exhausted.
use Rattle.std.specs.Prelude.{Bool, true, false, not, cond, ◌&&◌, List, [], ◌∷◌, ℕ, ◌+◌, eqb, ℤ, replicate, set}
use Rattle.std.specs.Bool.{beq}
use Rattle.std.proofs.Math.Option.{Option, none, some}
use Rattle.records.specs.declared.instant.Tick.{Tick}
use Rattle.records.specs.declared.instant.Tick.TheVariants.{Idle, Ticks, Unseen}
use Rattle.records.specs.Sheet.{SheetValue}
use Rattle.tesl.specs.Lists.{all, same_list}
use Rattle.tesl.specs.Run.{Filled}
use Rattle.tesl.specs.Fits.{none_falls, most_tag}
use Rattle.tesl.specs.Remainder.{Remainder, same_obligation, same_countdown}
use Rattle.theory.specs.Adding.{onward, added_to, same_by_count}
use Rattle.theory.specs.Step.{overlap, lines_ok, next_leads}
use Rattle.work.specs.Advanced.{Advanced, fails, over, onto}
use Rattle.work.specs.View.{filled_of}
use Rattle.work.specs.Questions.{tags_hold, ticks_hold, carried_holds, lead_after}
use Rattle.work.specs.Lines.{all_stopped}
use Rattle.work.specs.Owed.{Owings, owing, begun_by, added_all, added_countdowns, still_owed, still_counting, together}

-- ---- one remainder

-- the leads and stopped clocks after an instant
abbrev pub carried : SheetValue → List Bool → Remainder → Remainder
carried v ticks r = record {
  owed = r.owed;
  countdowns = r.countdowns;
  leads = next_leads (lead_after ticks) v.lines r.leads;
  stopped = all_stopped ticks v.lines r.stopped;
}

-- r owes w after it
abbrev pub with_begun : SheetValue → List Bool → Remainder → Option Owings → Advanced
with_begun v ticks r none = over
with_begun v ticks r (some w) = onto (carried v ticks (owing w r))

-- what was left of what r owes, and what is begun
abbrev pub with_still_owed : SheetValue → List Bool → Owings → Remainder → Option Owings → Advanced
with_still_owed v ticks begun r none = fails
with_still_owed v ticks begun r (some w) = with_begun v ticks r (together (added_all begun.owed w.owed) (added_countdowns begun.countdowns w.countdowns))

-- by the stopped clocks, the leads, what is met, late or missed, and what is begun
unfoldable pub advanced : SheetValue → Filled → Owings → Remainder → Advanced
advanced v f begun r =
    cond (not (overlap f.ticks r.stopped) && lines_ok (carried_holds f.ticks) v.lines r.leads)
    (with_still_owed v f.ticks begun r (together (still_owed f r.owed) (still_counting f r.countdowns)))
    fails

-- ---- those held

-- equal remainders, where each has an obligation once and a countdown once
unfoldable pub same_counted : Remainder → Remainder → Bool
same_counted x r =
    same_by_count same_obligation x.owed r.owed && same_by_count same_countdown x.countdowns r.countdowns
    && (same_list beq x.stopped r.stopped && same_list eqb x.leads r.leads)

-- one more, unless it is there, while there is room
unfoldable pub inserted : ℕ → Option (List Remainder) → Remainder → Option (List Remainder)
inserted room found x = onward (λ (rs : List Remainder). added_to same_counted room rs x) found

abbrev pub took : ℕ → Option (List Remainder) → Advanced → Option (List Remainder)
took room found fails = found
took room found over = none
took room found (onto x) = inserted room found x

-- each of rs goes on by a filled instant that begins these
unfoldable pub all_advanced : ℕ → SheetValue → Filled → Owings → List Remainder → Option (List Remainder) → Option (List Remainder)
all_advanced room v f begun [] found = found
all_advanced room v f begun (r ∷ rs) found = all_advanced room v f begun rs (took room found (advanced v f begun r))

-- a filling, unless a line forbids its ticks
unfoldable pub filling : ℕ → SheetValue → List ℤ → List Remainder → Option (List Remainder) → List Bool → Option (List Remainder)
filling room v tags rs found ticks =
    let f = filled_of ticks tags in
    cond (all (ticks_hold ticks) v.lines) (all_advanced room v f (begun_by most_tag v.lines f) rs found) found

-- the fillings of the clocks from k on, idle before tick; g takes each
abbrev pub fill_from : {R : Type 0} → (R → List Bool → R) → ℕ → List Tick → List Bool → R → R
fill_from g k [] ticks r = g r ticks
fill_from g k (Idle ∷ left) ticks r = fill_from g (k + 1) left ticks r
fill_from g k (Ticks ∷ left) ticks r = fill_from g (k + 1) left (set ticks k true) r
fill_from g k (Unseen ∷ left) ticks r = fill_from g (k + 1) left (set ticks k true) (fill_from g (k + 1) left ticks r)

-- the ticks and tags of an instant; nothing more is worked once exhausted or broken
unfoldable pub worked : ℕ → SheetValue → Option (List ℤ) → List Tick → List ℤ → Option (List Remainder) → Option (List Remainder)
worked room v last ticks tags none = none
worked room v last ticks tags (some []) = some []
worked room v last ticks tags (some (r ∷ rs)) =
    cond (none_falls v.clocks last tags && all (tags_hold tags) v.lines)
    (fill_from (filling room v tags (r ∷ rs)) 0 ticks (replicate 8 false) (some []))
    (some [])
