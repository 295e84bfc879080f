-- The words of units are short, and each of their letters is one byte.
use Rattle.std.proofs.Common.{◌≡◌, ℕ, zero, suc, ◌+◌, ◌<◌, ◌≤◌, Bool, true, false, ◌&&◌, List, [], ◌∷◌, ◌++◌, length, map, drop, get_or, refl, ◌∙◌, arith}
use Rattle.std.specs.Prelude.{nat_lt, encode_utf8}
use Rattle.std.specs.List.{list_all}
use Rattle.std.specs.Char.{to_ascii_uppercase}
use Rattle.std.proofs.lemmas.List.{append_assoc, append-nil, drop_all, drop_more}
use Rattle.std.proofs.lemmas.Bool.Decides.{nat_tests}
use Rattle.std.proofs.lemmas.Str.{length-encode, len_utf8_ascii}
use Rattle.std.proofs.lemmas.Str.Ascii.{uppercase_ascii}
use Rattle.outside_io.specs.declared.host.Unit as unit
use Rattle.outside_io.specs.declared.host.Unit.TheVariants.{Source}
use Rattle.outside_io.specs.World.{unit_word}

pub short : (u : unit.Unit) → length (unit_word u) ≤ 8
short Source = omega arith
short u = omega arith

abbrev AreAscii : List ℕ → Bool
AreAscii cs = list_all (λ c. nat_lt c 128) cs

all_ascii : (u : unit.Unit) → AreAscii (unit_word u) ≡ true
all_ascii Source = refl
all_ascii u = refl

both : (a b : Bool) → (a && b) ≡ true → (a ≡ true) × (b ≡ true)
both true b h = (refl, h)
both false b h = cc

below_at : (cs : List ℕ) (i : ℕ) → AreAscii cs ≡ true → get_or cs i 0 < 128
below_at [] i all = omega arith
below_at (c ∷ cs) zero all = let here = (both (nat_lt c 128) (AreAscii cs) all).0 in grind (arith, nat_tests)
below_at (c ∷ cs) (suc i) all = below_at cs i (both (nat_lt c 128) (AreAscii cs) all).1

-- a letter in capitals is one byte
pub one_byte : (u : unit.Unit) (letters : List ℕ) (i c : ℕ) → letters ≡ unit_word u → c ≡ to_ascii_uppercase (get_or letters i 0) → (c < 128) × (length (encode_utf8 c) ≡ 1)
one_byte u letters i c word is =
    let small : get_or letters i 0 < 128 = rw word (below_at (unit_word u) i (all_ascii u)) in
    let ascii : c < 128 = rw is (uppercase_ascii (get_or letters i 0) small) in
    (ascii, length-encode c ∙ len_utf8_ascii c ascii)

-- one letter more stands in the line
pub one_letter : (line letters : List ℕ) (i : ℕ) → i < length letters
    → (line ++ to_ascii_uppercase (get_or letters i 0) ∷ []) ++ map to_ascii_uppercase (drop (i + 1) letters) ≡ line ++ map to_ascii_uppercase (drop i letters)
one_letter line letters i h =
    rw (drop_more letters i 0 h) (append_assoc line (to_ascii_uppercase (get_or letters i 0) ∷ []) (map to_ascii_uppercase (drop (i + 1) letters)))

-- and none is left
pub no_letter : (line letters : List ℕ) (i : ℕ) → length letters ≤ i → line ++ map to_ascii_uppercase (drop i letters) ≡ line
no_letter line letters i h = rw (drop_all i letters h) (append-nil line)
