-- TESL formula by formula, as the papers write it: quantifiers over the numbers of instants, in document 01's prefix reading (001: sporadic, relation, implies, time delayed; 000: excludes, precedes, kills, delayed by a number of ticks).
-- Nothing here is taken from the executable definitions of `Fits`.
use Rattle.std.specs.Prelude.{◌≡◌, true, cond, List, [], ◌∷◌, ◌⊎◌, ℕ, zero, suc, ◌+◌, ◌<◌, ◌≤◌, ℤ, pos, ◌+ℤ◌, ◌*ℤ◌, ◌≤ℤ◌, length, get_or}
use Rattle.records.specs.declared.line.Line.{Line}
use Rattle.records.specs.declared.line.Line.TheVariants.{Sporadic, Relation, Implies, Excludes, Delayed, Weakly, Strictly, Kills, Counted}
use Rattle.tesl.specs.Run.{Filled, ticks_at, tag_at}

-- instant number n of a run, from 0; past its end no clock ticks
abbrev pub no_instant : Filled
no_instant = record { ticks = []; tags = [] }

abbrev pub instant : List Filled → ℕ → Filled
instant run n = get_or run n no_instant

-- clock K ticks at instant n; K's tag there
abbrev pub Ticking : List Filled → ℕ → ℕ → Type 0
Ticking run K n = ticks_at (instant run n) K ≡ true

abbrev pub tag : List Filled → ℕ → ℕ → ℤ
tag run K n = tag_at (instant run n) K

-- K's ticks at the instants below n
abbrev pub ticks_below : List Filled → ℕ → ℕ → ℕ
ticks_below run K zero = 0
ticks_below run K (suc n) = cond (ticks_at (instant run n) K) 1 0 + ticks_below run K n

-- K's tag at the last instant, if there is one, is at most z
abbrev pub LastTagAtMost : List Filled → ℕ → ℤ → Type 0
LastTagAtMost run K z = (n : ℕ) → suc n ≡ length run → tag run K n ≤ℤ z

abbrev pub Holds : Line → List Filled → Type 0
-- A ticks at some instant where B's tag is t; in a prefix: or B's tag has not passed t
Holds (Sporadic A B t) run = ((m : ℕ) × (m < length run) × Ticking run A m × (tag run B m ≡ t)) ⊎ LastTagAtMost run B t
-- at every instant A's tag is p × B's + q
Holds (Relation A B p q) run = (n : ℕ) → n < length run → tag run A n ≡ p *ℤ tag run B n +ℤ q
-- where A ticks, B ticks
Holds (Implies A B) run = (n : ℕ) → n < length run → Ticking run A n → Ticking run B n
-- A implies not B
Holds (Excludes A B) run = (n : ℕ) → n < length run → Ticking run A n → Ticking run B n → ⊥
-- for each n where A ticks there is a later m where D ticks and B's tag is d above its tag at n; in a prefix: or B's tag has not passed that
Holds (Delayed A B D d) run =
    (n : ℕ) → n < length run → Ticking run A n
    → ((m : ℕ) × (n < m) × (m < length run) × Ticking run D m × (tag run B m ≡ tag run B n +ℤ pos d)) ⊎ LastTagAtMost run B (tag run B n +ℤ pos d)
-- up to and with each instant, B has ticked at most as often as A; strictly: as A before the instant
Holds (Weakly A B) run = (n : ℕ) → n < length run → ticks_below run B (suc n) ≤ ticks_below run A (suc n)
Holds (Strictly A B) run = (n : ℕ) → n < length run → ticks_below run B (suc n) ≤ ticks_below run A n
-- once A has ticked, B does not tick, at that instant or later
Holds (Kills A B) run = (n m : ℕ) → n ≤ m → m < length run → Ticking run A n → Ticking run B m → ⊥
-- where A ticks at i and B at a later j, and B has ticked n times from the instant after i up to and with j, D ticks at j
Holds (Counted A B D n) run =
    (i j : ℕ) → i < j → j < length run → Ticking run A i → Ticking run B j → ticks_below run B (suc j) ≡ ticks_below run B (suc i) + n → Ticking run D j

-- no tag of the run exceeds the end of the scale
abbrev pub WithinScale : ℤ → List Filled → Type 0
WithinScale most run = (K n : ℕ) → tag run K n ≤ℤ most

-- no tag of the first C clocks falls
abbrev pub NoneFalls : ℕ → List Filled → Type 0
NoneFalls C run = (K n : ℕ) → K < C → suc n < length run → tag run K n ≤ℤ tag run K (suc n)

-- each line holds
abbrev pub EachHolds : List Line → List Filled → Type 0
EachHolds [] run = Unit {0}
EachHolds (l ∷ ls) run = Holds l run × EachHolds ls run
