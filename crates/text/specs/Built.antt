-- What the contracts of the inner functions cite.
use Rattle.std.specs.Prelude.{ℕ, ◌+◌, ◌≤◌, ◌≡◌, List, [], ◌++◌, ℤ, length, take}
use Rattle.records.specs.Sheet.{SheetValue}
use Rattle.records.specs.Store.{puts}
use Rattle.tesl.specs.Lists.{flat_map}
use Rattle.tesl.specs.Machine.{machine, accepts_each, calls_of}
use Rattle.judge.specs.declared.monitor.Monitor.{Monitor}
use Rattle.judge.specs.Monitor.{sheet_by}
use Rattle.judge.specs.Promises.{Follows}
use Rattle.text.specs.declared.build.Text.{Text}
use Rattle.text.specs.Text.{text_of, answer_line, column_line}
use Rattle.text.specs.Output.{lines_from, tag_lines}

-- there is room in t for some bytes
abbrev pub Room : Text → List ℕ → Type 0
Room t bytes = t.len + length bytes ≤ 64

-- r is t and then some bytes
pub record Adds (t : Text) (bytes : List ℕ) (r : Text) : Type 0 where
  pub len : r.len ≡ t.len + length bytes
  pub text : text_of r ≡ text_of t ++ bytes
  pub within : r.len ≤ 64

-- ---- lines in a lent buffer

-- a line has room behind the first `at` bytes
pub record LineRoom (buffer : List ℕ) (at : ℕ) (t : Text) : Type 0 where
  pub len : t.len ≤ 64
  pub room : at + length (text_of t) ≤ length buffer

-- it stands there, up to `end`
pub record PutLine (buffer : List ℕ) (at : ℕ) (t : Text) (end : ℕ) (after : List ℕ) : Type 0 where
  pub ends : end ≡ at + length (text_of t)
  pub stored : after ≡ puts buffer at (text_of t)

-- ---- *watch* after an opening: the lines of the replies to a log

abbrev pub replies_text : Monitor → List ℕ → List ℕ
replies_text m log = lines_from answer_line 1 (machine (sheet_by m) [] (calls_of log))

-- a monitor of no instant, and room for the lines
pub record RepliesReady (m : Monitor) (log out : List ℕ) : Type 0 where
  pub follows : Follows (sheet_by m) [] m
  pub room : length (replies_text m log) ≤ length out

-- ---- *columns*

-- the lines of the tags of the first c clocks
abbrev pub tags_text : ℕ → List ℤ → List ℕ
tags_text c tags = flat_map column_line (take c tags)

pub record TagsReady (buffer : List ℕ) (at : ℕ) (tags : List ℤ) (c : ℕ) : Type 0 where
  pub clocks : c ≤ 8
  pub room : at + length (tags_text c tags) ≤ length buffer

pub record PutTags (buffer : List ℕ) (at : ℕ) (tags : List ℤ) (c : ℕ) (end : ℕ) (after : List ℕ) : Type 0 where
  pub ends : end ≡ at + length (tags_text c tags)
  pub stored : after ≡ puts buffer at (tags_text c tags)

-- a sheet of c clocks: no line matters to what an instant is taken for
abbrev pub clocks_only : ℕ → SheetValue
clocks_only c = record { clocks = c; lines = [] }

-- the lines of a log's instants of c clocks
abbrev pub instants_text : ℕ → List ℕ → List ℕ
instants_text c log = lines_from tag_lines 1 (accepts_each (clocks_only c) [] (calls_of log))

pub record InstantsReady (c : ℕ) (log out : List ℕ) : Type 0 where
  pub clocks : c ≤ 8
  pub room : length (instants_text c log) ≤ length out
