-- The lines of a text, read one after another.
use Rattle.std.proofs.Common.{◌≡◌, ◌∙◌, ℕ, ◌+◌, ◌<◌, List, [], ◌∷◌, ◌++◌, length, refl, sym, ap, append_assoc, arith}
use Rattle.std.proofs.lemmas.List.{append-nil}
use Rattle.std.specs.Prelude.{Option, Some, None, Result, Ok, Err}
use Rattle.outside_io.specs.Lines.{behind_line, first_text, texts_of}
use Rattle.outside_io.proofs.WholeLines.{texts_of-front}
use Rattle.operator_script.specs.Lines.{item_first, items_from, items_of_lines}

module _ {A : Type 0} where
  -- items that were read, in front of what the lines behind them are
  abbrev pub with_front : List A → Result (List A) ℕ → Result (List A) ℕ
  with_front items (Ok rest) = Ok (items ++ rest)
  with_front items (Err bad) = Err bad

  -- no line was read yet
  with_none : (rest : Result (List A) ℕ) → with_front [] rest ≡ rest
  with_none (Ok items) = refl
  with_none (Err bad) = refl

  -- one line more was read
  with_more : (items : List A) (k : ℕ) (item : A) (rest : Result (List A) ℕ) → with_front (items ++ item ∷ []) rest ≡ with_front items (item_first k (Some item) rest)
  with_more items k item (Ok more) = ap (λ (all : List A). Ok all) (append_assoc items (item ∷ []) more)
  with_more items k item (Err bad) = refl

  module _ (item_of : List ℕ → Option A) where
    pub read_none : (bytes : List ℕ) → with_front [] (items_from item_of 1 (texts_of bytes)) ≡ items_of_lines item_of bytes
    unfolding items_of_lines
    read_none bytes = with_none (items_from item_of 1 (texts_of bytes))

    -- a text that is not empty is a line
    item_more : (k : ℕ) (text : List ℕ) (texts : List (List ℕ)) → 0 < length text → items_from item_of k (text ∷ texts) ≡ item_first k (item_of text) (items_from item_of (k + 1) texts)
    unfolding items_from
    item_more k [] texts some = absurd (omega (arith, some))
    item_more k (b ∷ text) texts some = refl

    -- an empty one is counted
    none_more : (k : ℕ) (text : List ℕ) (texts : List (List ℕ)) → length text ≡ 0 → items_from item_of k (text ∷ texts) ≡ items_from item_of (k + 1) texts
    unfolding items_from
    none_more k [] texts empty = refl
    none_more k (b ∷ text) texts empty = absurd (omega (arith, empty))

    -- no byte is left
    pub all_read : (k : ℕ) (bytes : List ℕ) (items : List A) → bytes ≡ [] → with_front items (items_from item_of k (texts_of bytes)) ≡ Ok items
    unfolding items_from
    all_read k bytes items empty = ap (λ (rest : List ℕ). with_front items (items_from item_of k (texts_of rest))) empty ∙ ap (λ (all : List A). Ok all) (append-nil items)

module _ {A : Type 0} (item_of : List ℕ → Option A) (k : ℕ) (bytes text behind : List ℕ) (some : length behind < length bytes) (is : text ≡ first_text bytes) (after : behind ≡ behind_line bytes) where
  -- the items of some bytes, from the first line on
  from_front : items_from item_of k (texts_of bytes) ≡ items_from item_of k (text ∷ texts_of behind)
  from_front =
      ap (λ (texts : List (List ℕ)). items_from item_of k texts) (texts_of-front bytes (omega arith))
      ∙ ap (λ (first : List ℕ). items_from item_of k (first ∷ texts_of (behind_line bytes))) (sym is)
      ∙ ap (λ (rest : List ℕ). items_from item_of k (text ∷ texts_of rest)) (sym after)

  -- where it is empty
  pub passed_over : (items : List A) → length text ≡ 0 → with_front items (items_from item_of (k + 1) (texts_of behind)) ≡ with_front items (items_from item_of k (texts_of bytes))
  passed_over items empty = ap (λ (all : Result (List A) ℕ). with_front items all) (sym (from_front ∙ none_more item_of k text (texts_of behind) empty))

  -- where it is an item
  pub item_read : (items : List A) (item : A) → 0 < length text → item_of text ≡ Some item
      → with_front (items ++ item ∷ []) (items_from item_of (k + 1) (texts_of behind)) ≡ with_front items (items_from item_of k (texts_of bytes))
  item_read items item full read =
      let rest = items_from item_of (k + 1) (texts_of behind) in
      with_more items k item rest
      ∙ ap (λ (first : Option A). with_front items (item_first k first rest)) (sym read)
      ∙ ap (λ (all : Result (List A) ℕ). with_front items all) (sym (from_front ∙ item_more item_of k text (texts_of behind) full))

  -- and where it is none
  pub line_bad : (items : List A) → 0 < length text → item_of text ≡ None → with_front items (items_from item_of k (texts_of bytes)) ≡ Err k
  line_bad items full bad =
      let rest = items_from item_of (k + 1) (texts_of behind) in
      ap (λ (all : Result (List A) ℕ). with_front items all)
      (from_front ∙ item_more item_of k text (texts_of behind) full ∙ ap (λ (first : Option A). item_first k first rest) bad)
