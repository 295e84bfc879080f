-- Texts of pairs as they go out.
use Rattle.std.proofs.Common.{◌≡◌, ℕ, List, [], ◌∷◌, ◌++◌, length, map, take, refl, sym, ◌∙◌, ap, subst, append_assoc}
use Rattle.std.proofs.Math.Seq.{take-append_seam}
use Rattle.std.specs.Prelude.{Option, Some, None}
use Rattle.indicators.specs.declared.Panel.{Panel}
use Rattle.indicators.specs.Panel.{set}
use Rattle.indicators.specs.Lamps.{Lamp, panel_after}
use Rattle.outside_io.specs.declared.host.Unit as unit
use Rattle.outside_io.specs.World.{Seen, Goes, world_after_put}
use Rattle.outside_io.proofs.Worlds.{adds_on}
use Rattle.traces.specs.Trace.{Trace}
use Rattle.card_code.specs.TextOut.{Output, WritesByte, Warns, with_pair, written_char, panel_after_pair, bytes_out, lamps_of}
use Rattle.card_code.specs.Written.{CarriedOut}

-- the bytes of two lists of effects, and their lamps
pub bytes_of-append : (es fs : List Output) → bytes_out (es ++ fs) ≡ bytes_out es ++ bytes_out fs
bytes_of-append [] fs = refl
bytes_of-append (WritesByte b ∷ es) fs = ap (λ (x : List ℕ). b ∷ x) (bytes_of-append es fs)
bytes_of-append (Warns l ∷ es) fs = bytes_of-append es fs

pub lamps_of-append : (es fs : List Output) → lamps_of (es ++ fs) ≡ lamps_of es ++ lamps_of fs
lamps_of-append [] fs = refl
lamps_of-append (WritesByte b ∷ es) fs = lamps_of-append es fs
lamps_of-append (Warns l ∷ es) fs = ap (λ (x : List Lamp). l ∷ x) (lamps_of-append es fs)

-- the first part of a text is a first part of what goes out
pub part_of : {A : Type 0} (written rest whole more : List A) → written ++ rest ≡ whole → take (length written) (whole ++ more) ≡ written
part_of {A} written rest whole more parts =
    ap (λ (x : List A). take (length written) (x ++ more)) (sym parts) ∙ ap (λ (x : List A). take (length written) x) (append_assoc written rest more) ∙ take-append_seam written (rest ++ more)

-- bytes alone, as effects
pub writes_bytes : (bytes : List ℕ) → bytes_out (map WritesByte bytes) ≡ bytes
writes_bytes [] = refl
writes_bytes (b ∷ bytes) = ap (λ (x : List ℕ). b ∷ x) (writes_bytes bytes)

pub writes_no_lamp : (bytes : List ℕ) → lamps_of (map WritesByte bytes) ≡ []
writes_no_lamp [] = refl
writes_no_lamp (b ∷ bytes) = writes_no_lamp bytes

-- the panel after two lists of changes
pub panel_after-append : (panel : Panel) (ks ls : List Lamp) → panel_after panel (ks ++ ls) ≡ panel_after (panel_after panel ks) ls
panel_after-append panel [] ls = refl
panel_after-append panel (k ∷ ks) ls = panel_after-append (set k.code k.to panel) ks ls

-- effects, and then more of them
pub put_on : (u : unit.Unit) (es fs : List Output) (panel mid_panel new_panel : Panel) (before mid after : Seen) → CarriedOut u es panel before mid_panel mid → CarriedOut u fs mid_panel mid new_panel after → CarriedOut u (es ++ fs) panel before new_panel after
put_on u es fs panel mid_panel new_panel before mid after first next = record {
  goes = subst (λ (bytes : List ℕ). Goes before after (world_after_put u bytes before.world)) (sym (bytes_of-append es fs)) (adds_on before mid after u (bytes_out es) (bytes_out fs) first.goes next.goes);
  shows = next.shows ∙ ap (λ (p : Panel). panel_after p (lamps_of fs)) first.shows ∙ sym (panel_after-append panel (lamps_of es) (lamps_of fs)) ∙ ap (λ (ls : List Lamp). panel_after panel ls) (sym (lamps_of-append es fs));
}

-- What follows a pair that was read, once the panel is as the pair leaves it.
module _ {A E : Type 0} (f : ℕ → Trace Output A E) where
  pub pair_answer : (char : Option ℕ) → (with_pair char f).answer ≡ (f (written_char char)).answer
  pair_answer (Some c) = refl
  pair_answer None = refl

  pub pair_bytes : (char : Option ℕ) → bytes_out (with_pair char f).effects ≡ bytes_out (f (written_char char)).effects
  pair_bytes (Some c) = refl
  pair_bytes None = refl

  pub pair_lamps : (panel : Panel) (char : Option ℕ) → panel_after panel (lamps_of (with_pair char f).effects) ≡ panel_after (panel_after_pair char panel) (lamps_of (f (written_char char)).effects)
  pair_lamps panel (Some c) = refl
  pair_lamps panel None = refl
