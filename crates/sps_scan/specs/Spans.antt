-- The places of a statement's texts in its line.
-- Source: SPS manual, coding sheet.
use Rattle.std.specs.Prelude.{◌≡◌, ℕ, ◌+◌, ◌≤◌, ◌⊎◌, ⊤, List, [], ◌∷◌, ◌++◌, map, take, drop, slice_index_or}
use Rattle.sps_scan.specs.Statement.{StatementText}

-- a run of a line's bytes: how many bytes are before it, and how many it has
pub record LineSpan : Type 0 where
  pub from : ℕ
  pub size : ℕ

-- the bytes of a span, as far as the line has them
abbrev pub span_text : List ℕ → LineSpan → List ℕ
span_text line span = take span.size (drop span.from line)

-- the spans lie from one place to another, and each begins at or after the end of the span before it
abbrev pub AreInOrder : ℕ → ℕ → List LineSpan → Type 0
AreInOrder from to [] = from ≤ to
AreInOrder from to (span ∷ spans) = (from ≤ span.from) × AreInOrder (span.from + span.size) to spans

-- a place is the end of a text, or follows a comma at that end
abbrev pub Follows : List ℕ → ℕ → ℕ → Type 0
Follows line end place = (place ≡ end) ⊎ ((place ≡ end + 1) × (slice_index_or line end 0 ≡ 44))

-- each span follows the span before it, with at most a comma between the two
abbrev pub FollowOn : List ℕ → ℕ → List LineSpan → Type 0
FollowOn line end [] = ⊤
FollowOn line end (span ∷ spans) = Follows line end span.from × FollowOn line (span.from + span.size) spans

-- the first span begins at a place, and each other span follows the span before it
abbrev pub ArePartedFrom : List ℕ → ℕ → List LineSpan → Type 0
ArePartedFrom line at [] = ⊤
ArePartedFrom line at (span ∷ spans) = (span.from ≡ at) × FollowOn line (span.from + span.size) spans

-- the places of a statement's texts; for the parts, as many as `count`
pub record Spans : Type 0 where
  pub label : LineSpan
  pub operation : LineSpan
  pub parts : List LineSpan
  pub remark : LineSpan

-- each text is the text of its span; the label lies within columns 6 to 11, the operation within 12 to 15, and the parts and the
-- remark lie one after another within 16 to 75, from column 16 on and with only commas between them
pub record IsPlaced (line : List ℕ) (s : StatementText) (spans : Spans) : Type 0 where
  pub label : span_text line spans.label ≡ s.label
  pub operation : span_text line spans.operation ≡ s.operation
  pub parts : map (span_text line) spans.parts ≡ take s.count s.parts
  pub remark : span_text line spans.remark ≡ s.remark
  pub label_columns : AreInOrder 5 11 (spans.label ∷ [])
  pub operation_columns : AreInOrder 11 15 (spans.operation ∷ [])
  pub operand_columns : AreInOrder 15 75 (spans.parts ++ spans.remark ∷ [])
  pub parted : ArePartedFrom line 15 (spans.parts ++ spans.remark ∷ [])

-- the texts are in the line in this order: label, operation, parts, remark
abbrev pub AreInPlace : List ℕ → StatementText → Type 0
AreInPlace line s = (spans : Spans) × IsPlaced line s spans
