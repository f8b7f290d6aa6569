-- One instant on a remainder: whether a filled instant may follow, and the remainder after it. Nothing here looks at the run before. Assumes nothing.
use Rattle.std.specs.Prelude.{Bool, true, false, not, ◌&&◌, ◌||◌, List, [], ◌∷◌, ◌++◌, map, ℕ, ◌+◌, ◌-◌, leb, eqb, ℤ, ◌+ℤ◌, ◌*ℤ◌, get_or}
use Rattle.std.proofs.Math.Option.{Option, some}
use Rattle.records.specs.declared.line.Line.{Line}
use Rattle.records.specs.declared.line.Line.TheVariants.{Sporadic, Relation, Implies, Excludes, Delayed, Weakly, Strictly, Kills, Counted}
use Rattle.records.specs.Line.{clocks_below, kind_of, body_of, of_precedes}
use Rattle.records.specs.Sheet.{SheetValue}
use Rattle.tesl.specs.Lists.{all, any, filter, flat_map, last_of, table}
use Rattle.tesl.specs.Run.{Instant, tags_of, Filled, ticks_at, tag_at, fillings}
use Rattle.tesl.specs.Fits.{eq_z, none_falls, most_tag, Obligation, meets, owed_from, not_late, Countdown, counted_from, left_by}
use Rattle.tesl.specs.Remainder.{Remainder, stops}

abbrev pub bit : Bool → ℕ
bit true = 1
bit false = 0

-- ---- a line at the instant f: does it hold, by the line's lead; and its lead after. A kills line asks of its own instant only: what it stopped before bars by itself; a counted line asks by its countdowns
abbrev pub line_ok : Filled → Line → ℕ → Bool
line_ok f (Relation A B p q) lead = eq_z (tag_at f A) (p *ℤ tag_at f B +ℤ q)
line_ok f (Implies A B) lead = not (ticks_at f A) || ticks_at f B
line_ok f (Excludes A B) lead = not (ticks_at f A && ticks_at f B)
line_ok f (Kills A B) lead = not (ticks_at f B && ticks_at f A)
line_ok f (Weakly A B) lead = leb (bit (ticks_at f B)) (lead + bit (ticks_at f A))
line_ok f (Strictly A B) lead = leb (bit (ticks_at f B)) lead
line_ok f (Sporadic A B t) lead = true
line_ok f (Delayed A B D d) lead = true
line_ok f (Counted A B D n) lead = true

abbrev pub next_lead : Filled → Line → ℕ → ℕ
next_lead f l lead = of_precedes 0 (λ A B. lead + bit (ticks_at f A) - bit (ticks_at f B)) l

-- ---- some clock is in both
abbrev pub overlap : List Bool → List Bool → Bool
overlap [] ys = false
overlap (x ∷ xs) [] = false
overlap (x ∷ xs) (y ∷ ys) = (x && y) || overlap xs ys

-- ---- all lines, each with its state; a line past the end of the states has the default

module _ {X : Type 0} (default : X) where
  -- each line holds, by its state
  abbrev pub states_ok : (Line → X → Bool) → List Line → List X → Bool
  states_ok ok [] states = true
  states_ok ok (l ∷ ls) [] = ok l default && states_ok ok ls []
  states_ok ok (l ∷ ls) (x ∷ states) = ok l x && states_ok ok ls states

  -- the states after
  abbrev pub next_states : (Line → X → X) → List Line → List X → List X
  next_states after [] states = []
  next_states after (l ∷ ls) [] = after l default ∷ next_states after ls []
  next_states after (l ∷ ls) (x ∷ states) = after l x ∷ next_states after ls states

-- the leads: 0 where there is none
abbrev pub lines_ok : (Line → ℕ → Bool) → List Line → List ℕ → Bool
lines_ok ok ls leads = states_ok 0 ok ls leads

abbrev pub next_leads : (Line → ℕ → ℕ) → List Line → List ℕ → List ℕ
next_leads after ls leads = next_states 0 after ls leads

-- those that f doesn't meet, then those that f begins
abbrev pub next_owed : ℤ → List Line → Filled → List Obligation → List Obligation
next_owed most ls f os = filter (λ (o : Obligation). not (meets f o)) os ++ flat_map (owed_from most f) ls

-- ---- countdowns

-- the last tick that one wants comes at f, and its clock doesn't tick there
abbrev pub misses : Filled → Countdown → Bool
misses f c = ticks_at f c.on && eqb c.wanted 1 && not (ticks_at f c.clock)

abbrev pub none_missed : Filled → List Countdown → Bool
none_missed f cs = all (λ (c : Countdown). not (misses f c)) cs

-- those that a line begins at f, and all lines
abbrev pub started_by : Filled → Line → List Countdown
started_by f l = left_by [] (counted_from f l)

abbrev pub begun_countdowns : List Line → Filled → List Countdown
begun_countdowns ls f = flat_map (started_by f) ls

-- what f leaves, then those that f begins
abbrev pub next_countdowns : List Line → Filled → List Countdown → List Countdown
next_countdowns ls f cs = left_by (f ∷ []) cs ++ begun_countdowns ls f

-- ---- a remainder after f
unfoldable pub next : SheetValue → Filled → Remainder → Remainder
next s f r = record {
  owed = next_owed most_tag s.lines f r.owed;
  countdowns = next_countdowns s.lines f r.countdowns;
  leads = next_leads (next_lead f) s.lines r.leads;
  stopped = table s.clocks (λ k. get_or r.stopped k false || any (stops (f ∷ []) k) s.lines);
}

-- f may follow a run with the remainder r, whose last tags are `last`: no tag falls, no countdown is missed, no stopped clock ticks, each line holds, nothing owed is late
unfoldable pub step_ok : SheetValue → Option (List ℤ) → Filled → Remainder → Bool
step_ok s last f r =
    none_falls s.clocks last f.tags
    && (none_missed f r.countdowns && (not (overlap f.ticks r.stopped) && lines_ok (line_ok f) s.lines r.leads))
    && not_late (some f.tags) (next_owed most_tag s.lines f r.owed)

-- the tags of a run's last instant
abbrev pub last_tags_of : List Instant → Option (List ℤ)
last_tags_of run = last_of (map tags_of run)

-- the remainders after an instant's fillings that may follow
unfoldable pub nexts : SheetValue → Option (List ℤ) → Instant → Remainder → List Remainder
nexts s last i r = map (λ (f : Filled). next s f r) (filter (λ (f : Filled). step_ok s last f r) (fillings i))

-- ---- each clock of a line is below C, as reading has it (7)
abbrev pub line_below : ℕ → Line → Bool
line_below c l = clocks_below c (kind_of l) (body_of l)

abbrev pub well_formed : SheetValue → Bool
well_formed s = all (line_below s.clocks) s.lines
