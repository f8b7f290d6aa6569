-- A line is told by its kind, each with its own length and fields.
use Rattle.std.specs.Prelude.{ℕ, suc, Bool, true, not, cond, ◌&&◌, List, [], ◌∷◌, ◌++◌, length, take, ℤ, pos, leb, ltb, eqb}
use Rattle.records.specs.declared.line.Line.{Line}
use Rattle.records.specs.declared.line.Line.TheVariants.{Sporadic, Relation, Implies, Excludes, Delayed, Weakly, Strictly, Kills, Counted}
use Rattle.records.specs.Outcome.{Check, ◌⇒◌}
use Rattle.records.specs.Word.{at, word_at, word_bytes, tag_of, raw_of}
use Rattle.records.specs.Record.{Piece, whole, torn, record_bytes}

-- kinds 16 to 24 are lines
abbrev pub is_line : ℕ → Bool
is_line kind = leb 16 kind && leb kind 24

-- what stands for the line of any other kind; no contract speaks of it
abbrev pub no_line : Line
no_line = Sporadic 0 0 (pos 0)

-- kind 16 is sporadic
abbrev pub is_sporadic : ℕ → Bool
is_sporadic kind = eqb kind 16

-- the length of a line's body by its kind
unfoldable pub length_of : ℕ → ℕ
length_of kind = cond (eqb kind 16) 4 (cond (eqb kind 17) 6 (cond (eqb kind 20) 5 (cond (eqb kind 24) 4 (cond (is_line kind) 2 0))))

-- how many clocks stand at the front of the body: A, B and D in kinds 20 and 24, A and B in the other kinds
unfoldable pub clocks_of : ℕ → ℕ
clocks_of kind = cond (eqb kind 20) 3 (cond (eqb kind 24) 3 (cond (is_line kind) 2 0))

-- each number is below c
abbrev pub all_below : ℕ → List ℕ → Bool
all_below c [] = true
all_below c (x ∷ xs) = ltb x c && all_below c xs

-- the clocks of a line are below the count c
abbrev pub clocks_below : ℕ → ℕ → List ℕ → Bool
clocks_below c kind body = all_below c (take (clocks_of kind) body)

-- kind 24 whose count n is 0
abbrev pub no_count : ℕ → List ℕ → Bool
no_count kind body = eqb kind 24 && eqb (at body 3) 0

-- how many of some kinds are sporadic
abbrev pub sporadics : List ℕ → ℕ
sporadics [] = 0
sporadics (kind ∷ kinds) = cond (is_sporadic kind) (suc (sporadics kinds)) (sporadics kinds)

-- a line of a value, `spent` sporadic lines standing before it; 7: clock not below C; 18: n is 0; 9: ninth sporadic
abbrev pub value_line_checks : ℕ → ℕ → ℕ → List ℕ → List Check
value_line_checks c spent kind body =
    (not (clocks_below c kind body) ⇒ 7)
    ∷ (no_count kind body ⇒ 18)
    ∷ ((is_sporadic kind && leb 8 spent) ⇒ 9)
    ∷ []

-- a line of a sheet's bytes, `lines` lines standing before it; 1: torn; 8: seventeenth line; 5: kind not 16 to 24, or above the last kind that is read; 6: length wrong; then 7, 18, 9
abbrev pub line_checks : ℕ → ℕ → ℕ → ℕ → Piece → List Check
line_checks last c lines spent torn = (true ⇒ 1) ∷ []
line_checks last c lines spent (whole kind body) =
    (leb 16 lines ⇒ 8)
    ∷ (not (is_line kind && leb kind last) ⇒ 5)
    ∷ (not (eqb (length body) (length_of kind)) ⇒ 6)
    ∷ value_line_checks c spent kind body

-- the line of a kind 16 to 24 with a body of its length
unfoldable pub line_of : ℕ → List ℕ → Line
line_of kind b =
    cond (eqb kind 16) (Sporadic (at b 0) (at b 1) (tag_of (word_at b 2)))
    (cond (eqb kind 17) (Relation (at b 0) (at b 1) (tag_of (word_at b 2)) (tag_of (word_at b 4)))
    (cond (eqb kind 18) (Implies (at b 0) (at b 1))
    (cond (eqb kind 19) (Excludes (at b 0) (at b 1))
    (cond (eqb kind 20) (Delayed (at b 0) (at b 1) (at b 2) (word_at b 3))
    (cond (eqb kind 21) (Weakly (at b 0) (at b 1))
    (cond (eqb kind 22) (Strictly (at b 0) (at b 1))
    (cond (eqb kind 23) (Kills (at b 0) (at b 1))
    (cond (eqb kind 24) (Counted (at b 0) (at b 1) (at b 2) (at b 3))
    no_line))))))))

-- a line's kind and its body
abbrev pub kind_of : Line → ℕ
kind_of (Sporadic a b t) = 16
kind_of (Relation a b p q) = 17
kind_of (Implies a b) = 18
kind_of (Excludes a b) = 19
kind_of (Delayed a b d by) = 20
kind_of (Weakly a b) = 21
kind_of (Strictly a b) = 22
kind_of (Kills a b) = 23
kind_of (Counted a b d n) = 24

abbrev pub body_of : Line → List ℕ
body_of (Sporadic a b t) = a ∷ b ∷ word_bytes (raw_of t)
body_of (Relation a b p q) = a ∷ b ∷ word_bytes (raw_of p) ++ word_bytes (raw_of q)
body_of (Implies a b) = a ∷ b ∷ []
body_of (Excludes a b) = a ∷ b ∷ []
body_of (Delayed a b d by) = a ∷ b ∷ d ∷ word_bytes by
body_of (Weakly a b) = a ∷ b ∷ []
body_of (Strictly a b) = a ∷ b ∷ []
body_of (Kills a b) = a ∷ b ∷ []
body_of (Counted a b d n) = a ∷ b ∷ d ∷ n ∷ []

-- a line's record
abbrev pub line_bytes : Line → List ℕ
line_bytes l = record_bytes (kind_of l) (body_of l)

-- what an unused line place holds
abbrev pub blank_line : Line
blank_line = Sporadic 0 0 (pos 0)

-- ---- what one kind of line answers, or the two that precede, and `other` for any other kind

abbrev pub of_sporadic : {X : Type 0} → X → (ℕ → ℕ → ℤ → X) → Line → X
of_sporadic other f (Sporadic A B t) = f A B t
of_sporadic other f (Relation A B p q) = other
of_sporadic other f (Implies A B) = other
of_sporadic other f (Excludes A B) = other
of_sporadic other f (Delayed A B D d) = other
of_sporadic other f (Weakly A B) = other
of_sporadic other f (Strictly A B) = other
of_sporadic other f (Kills A B) = other
of_sporadic other f (Counted A B D n) = other

abbrev pub of_relation : {X : Type 0} → X → (ℕ → ℕ → ℤ → ℤ → X) → Line → X
of_relation other f (Sporadic A B t) = other
of_relation other f (Relation A B p q) = f A B p q
of_relation other f (Implies A B) = other
of_relation other f (Excludes A B) = other
of_relation other f (Delayed A B D d) = other
of_relation other f (Weakly A B) = other
of_relation other f (Strictly A B) = other
of_relation other f (Kills A B) = other
of_relation other f (Counted A B D n) = other

abbrev pub of_delayed : {X : Type 0} → X → (ℕ → ℕ → ℕ → ℕ → X) → Line → X
of_delayed other f (Sporadic A B t) = other
of_delayed other f (Relation A B p q) = other
of_delayed other f (Implies A B) = other
of_delayed other f (Excludes A B) = other
of_delayed other f (Delayed A B D d) = f A B D d
of_delayed other f (Weakly A B) = other
of_delayed other f (Strictly A B) = other
of_delayed other f (Kills A B) = other
of_delayed other f (Counted A B D n) = other

-- a weakly line and a strictly line, each by its own
abbrev pub of_each_precedes : {X : Type 0} → X → (ℕ → ℕ → X) → (ℕ → ℕ → X) → Line → X
of_each_precedes other weakly strictly (Sporadic A B t) = other
of_each_precedes other weakly strictly (Relation A B p q) = other
of_each_precedes other weakly strictly (Implies A B) = other
of_each_precedes other weakly strictly (Excludes A B) = other
of_each_precedes other weakly strictly (Delayed A B D d) = other
of_each_precedes other weakly strictly (Weakly A B) = weakly A B
of_each_precedes other weakly strictly (Strictly A B) = strictly A B
of_each_precedes other weakly strictly (Kills A B) = other
of_each_precedes other weakly strictly (Counted A B D n) = other

abbrev pub of_precedes : {X : Type 0} → X → (ℕ → ℕ → X) → Line → X
of_precedes other f l = of_each_precedes other f f l

abbrev pub of_kills : {X : Type 0} → X → (ℕ → ℕ → X) → Line → X
of_kills other f (Sporadic A B t) = other
of_kills other f (Relation A B p q) = other
of_kills other f (Implies A B) = other
of_kills other f (Excludes A B) = other
of_kills other f (Delayed A B D d) = other
of_kills other f (Weakly A B) = other
of_kills other f (Strictly A B) = other
of_kills other f (Kills A B) = f A B
of_kills other f (Counted A B D n) = other

abbrev pub of_counted : {X : Type 0} → X → (ℕ → ℕ → ℕ → ℕ → X) → Line → X
of_counted other f (Sporadic A B t) = other
of_counted other f (Relation A B p q) = other
of_counted other f (Implies A B) = other
of_counted other f (Excludes A B) = other
of_counted other f (Delayed A B D d) = other
of_counted other f (Weakly A B) = other
of_counted other f (Strictly A B) = other
of_counted other f (Kills A B) = other
of_counted other f (Counted A B D n) = f A B D n
