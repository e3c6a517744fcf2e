-- a generated machine is within the limits of a machine text, and its canonical text is short
use Rattle.std.proofs.Common.{◌≡◌, ℕ, suc, ◌+◌, ◌*◌, ◌<◌, ◌≤◌, true, List, [], ◌∷◌, ◌++◌, map, length, refl, ap, arith, length-append}
use Rattle.std.specs.Prelude.{IsTrue, codes}
use Rattle.std.specs.List.{list_all, flat_map}
use Rattle.std.specs.Fmt.{decimal, digits}
use Rattle.std.proofs.lemmas.Bool.{lt-ltb}
use Rattle.std.proofs.lemmas.Bool.Decides.{nat_tests}
use Rattle.std.proofs.lemmas.Fmt.{length-decimal-le}
use Rattle.std.proofs.lemmas.Grind.{flat_map-append}
use Rattle.plat_base.specs.GuestRun.{word_modulus}
use Rattle.plat_base.specs.Machine.{Machine, Program, is_program, is_machine, robin, programs_seen, program_seen, machine_of}
use Rattle.plat_base.specs.Pages.{numbers}
use Rattle.plat_base.specs.Text.{line_bytes, text_bytes}
use Rattle.plat_base.specs.Roomy.{Roomy}
use Rattle.plat_base.specs.declared.configs.Distance.{Distance}
use Rattle.plat_base.specs.declared.configs.Entry.{Entry}
use Rattle.plat_base.specs.declared.configs.Init.{Init}
use Rattle.plat_base.specs.declared.configs.Plan.TheVariants.{Robin}
use Rattle.plat_base.specs.Canon.{Words, program_lines, canon_text, is_short}
use Rattle.plat_base.specs.declared.guests.GuestText.{GuestText}
use Rattle.plat_base.specs.declared.policies.PolicyKind.TheVariants.{Platinum}
use Rattle.plat_gen.specs.Generated.{seed, same_page, guest, generated}

-- ---- one guest more

-- ---- limits

guest-limits : (x : ℕ) → x < word_modulus → is_program (guest x) ≡ true
guest-limits x h = rw (lt-ltb x word_modulus h) refl

guests-limits : (n : ℕ) (qs : List ℕ) → list_all is_program (map (λ q. guest (seed n q)) qs) ≡ true
guests-limits n [] = refl
guests-limits n (q ∷ qs) =
    let below : seed n q < word_modulus = omega arith
    in rw (guest-limits (seed n q) below, guests-limits n qs) refl

-- the generated machine with these guests
abbrev with_guests : List Program → Machine
with_guests guests = record {
  nodes = 8;
  frames = 40;
  words = 16;
  pages = 33;
  policy = Platinum 200 1000;
  budget = 41000;
  schedule = robin;
  distances = [];
  entries = map same_page (numbers 33);
  inits = [];
  guests = guests;
}

with_guests-limits : (gs : List Program) → length gs ≡ 8 → list_all is_program gs ≡ true → is_machine (with_guests gs) ≡ true
with_guests-limits gs l h = rw (l, h) refl

pub generated-limits : (n : ℕ) → IsTrue (is_machine (generated n))
unfolding generated
generated-limits n = with_guests-limits (generated n).guests refl (guests-limits n (numbers 8))

-- ---- the canonical text

guest-text : (x : ℕ) → x < word_modulus → length (text_bytes (program_lines (guest x))) ≤ 1000
unfolding digits
guest-text x h =
    let spelled : length (decimal x) ≤ 10 = length-decimal-le 10 x (omega arith) (omega arith) (omega arith)
    in simp length-append (omega arith)

text-append : (above below : List Words) → length (text_bytes (above ++ below)) ≡ length (text_bytes above) + length (text_bytes below)
text-append above below = rw (flat_map-append line_bytes above below, length-append) refl

guests-text : (n : ℕ) (qs : List ℕ) → length (text_bytes (flat_map program_lines (map (λ q. guest (seed n q)) qs))) ≤ 1000 * length qs
guests-text n [] = omega arith
guests-text n (q ∷ qs) =
    let below : seed n q < word_modulus = omega arith in
    let others = map (λ r. guest (seed n r)) qs
    in both (text-append (program_lines (guest (seed n q))) (flat_map program_lines others)) (guest-text (seed n q) below)
    (guests-text n qs)
  where
    both : {a b c : ℕ} → a ≡ b + c → b ≤ 1000 → c ≤ 1000 * length qs → a ≤ 1000 * suc (length qs)
    both e h l = omega arith

with_guests-text :
    (gs : List Program) → length (text_bytes (flat_map program_lines gs)) ≤ 8000 → IsTrue (is_short (with_guests gs))
unfolding is_short canon_text digits
with_guests-text gs h =
    let all : length (canon_text (with_guests gs)) ≤ 1048576 =
    rw (flat_map-append line_bytes (flat_map program_lines gs) ((codes "end" ∷ []) ∷ [])) (simp length-append (omega arith))
    in grind (arith, nat_tests)

pub generated-short : (n : ℕ) → IsTrue (is_short (generated n))
unfolding generated
generated-short n = with_guests-text (generated n).guests (guests-text n (numbers 8))

-- ---- a Config with these lists

pub generated-seen :
    (n : ℕ) (distances : Roomy Distance) (entries : Roomy Entry) (inits : Roomy Init) (guests : Roomy GuestText) → distances.items ≡ []
    → entries.items ≡ map same_page (numbers 33) → inits.items ≡ []
    → programs_seen guests.items ≡ map (λ q. guest (seed n q)) (numbers 8)
    → machine_of 8 40 16 33 (Platinum 200 1000) 41000 Robin distances entries inits guests ≡ generated n
unfolding generated
generated-seen n distances entries inits guests d e i g = simp (d, e, i, g)
