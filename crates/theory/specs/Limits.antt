-- The limits of a monitor (refusal 11), as numbers: of its sheet, of the list of instants, of a remainder of c clocks with `held` instants, and of those held; `most` is the end of the scale. Assumes nothing.
use Rattle.std.specs.Prelude.{Bool, false, not, ◌&&◌, List, map, ◌≡◌, ℕ, ◌≤◌, T, leb, ltb, ℤ, negsuc, length, ◌≤ℤ◌}
use Rattle.std.specs.Int.Signed.{le_z}
use Rattle.records.specs.declared.line.Line.{Line}
use Rattle.records.specs.Line.{no_count, sporadics, kind_of, body_of}
use Rattle.records.specs.Sheet.{SheetValue}
use Rattle.records.specs.Instant.{Cell}
use Rattle.records.specs.Types.{All, IsLineValue, IsInstant}
use Rattle.tesl.specs.Lists.{all, any}
use Rattle.tesl.specs.Run.{Instant}
use Rattle.tesl.specs.Fits.{Obligation, Countdown}
use Rattle.tesl.specs.Remainder.{Remainder, overfull}
use Rattle.theory.specs.Step.{well_formed}

-- ---- a sheet value within its own: 4, 8, 9, 7 and 18 don't apply, and its numbers are of their types
pub record SheetLimits (s : SheetValue) : Type 0 where
  pub clocks-least : 1 ≤ s.clocks
  pub clocks-most : s.clocks ≤ 8
  pub lines-most : length s.lines ≤ 16
  pub sporadics-most : sporadics (map kind_of s.lines) ≤ 8
  pub clocks-below : T (well_formed s)
  pub counts-least : All (λ (l : Line). no_count (kind_of l) (body_of l) ≡ false) s.lines
  pub values : All IsLineValue s.lines

-- ---- the list of accepted instants: at most 4,000, a cell for each clock
pub record ListLimits (s : SheetValue) (run : List Instant) : Type 0 where
  pub instants-most : length run ≤ 4000
  pub sizes : All (λ (i : Instant). length i ≡ s.clocks) run
  pub values : All IsInstant run

-- none of an instant's tags exceeds the end of the scale, and none of the list's
abbrev pub TagsWithin : ℤ → Instant → Type 0
TagsWithin most i = All (λ (c : Cell). c.tag ≤ℤ most) i

abbrev pub OnScale : ℤ → List Instant → Type 0
OnScale most run = All (TagsWithin most) run

-- ---- a remainder

-- the least tag, −32,768
abbrev pub least_tag : ℤ
least_tag = negsuc 32767

-- dues from there to the end of the scale
abbrev pub due_ok : ℤ → ℤ → Bool
due_ok most z = le_z least_tag z && le_z z most

-- an obligation's clocks below c
abbrev pub clocks_ok : ℕ → Obligation → Bool
clocks_ok c o = ltb o.clock c && ltb o.on c

abbrev pub obligation_ok : ℤ → ℕ → Obligation → Bool
obligation_ok most c o = clocks_ok c o && due_ok most o.due

-- 1 to 255 ticks may be wanted
abbrev pub least_wanted : ℕ
least_wanted = 1

abbrev pub most_wanted : ℕ
most_wanted = 255

-- a countdown's clocks below c, and what it wants
abbrev pub countdown_ok : ℕ → Countdown → Bool
countdown_ok c x = (ltb x.clock c && ltb x.on c) && (leb least_wanted x.wanted && leb x.wanted most_wanted)

-- ticks minus ticks 0 to the instants held; the numbers of obligations and of countdowns are apart
unfoldable pub within_limits : ℤ → ℕ → ℕ → Remainder → Bool
within_limits most c held r = all (obligation_ok most c) r.owed && (all (countdown_ok c) r.countdowns && all (λ (n : ℕ). leb n held) r.leads)

-- ---- those held: live 0 to `room`, obligations 0 to 8 each, countdowns 0 to 8 each
pub record HeldLimits (most : ℤ) (room c held : ℕ) (rs : List Remainder) : Type 0 where
  pub live : length rs ≤ room
  pub owe : T (not (any overfull rs))
  pub within : T (all (within_limits most c held) rs)
