-- the lines before the distances: what is read is spelled so, and what is spelled so is read
use Rattle.std.proofs.Common.{◌≡◌, ℕ, ◌^◌, ◌<◌, ◌≤◌, true, leb, List, [], ◌∷◌, ◌++◌, length, map}
use Rattle.std.proofs.Common.{Result, Ok, codes, IsTrue, refl, ap, sym, ◌∙◌, arith}
use Rattle.std.specs.Fmt.{decimal}
use Rattle.std.specs.List.{AllByRecursion, list_all}
use Rattle.std.proofs.lemmas.Bool.{and_parts, and_from, leb-true, le-leb, lt-ltb, ltb-true}
use Rattle.std.proofs.lemmas.Bool.Decides.{nat_tests}
use Rattle.plat_grammar.specs.Lines.{number_of}
use Rattle.plat_base.specs.Machine.{Turns, robin, random, listed, is_within, is_page_size, is_policy, is_schedule, is_number}
use Rattle.plat_grammar.specs.Forms.{Row, Rest, one, nothing, ◌·◌, made}
use Rattle.plat_grammar.specs.Forms.{line_at}
use Rattle.plat_grammar.specs.FirstFault.{number_line, page_size, size_of, size_line, version_line, policies, policy_line}
use Rattle.plat_grammar.specs.FirstFault.{schedules, schedule_line, Header, header_at}
use Rattle.plat_base.specs.declared.faults.Why.{Why}
use Rattle.plat_base.specs.declared.faults.Why.TheVariants as why
use Rattle.plat_base.specs.declared.policies.PolicyKind.{PolicyKind}
use Rattle.plat_base.specs.declared.policies.PolicyKind.TheVariants as policy
use Rattle.plat_text.proofs.Results.{taking, then_ok, ok_first, ok_second, let_through}
use Rattle.plat_text.proofs.NumberLemmas.{number_of-takes, number_of-again}
use Rattle.plat_text.proofs.WordLaws.{IsWordForm, number-law, any-law, exactly-law, is_within-true, is_within-from}
use Rattle.plat_text.proofs.FormLaws.{row_texts, IsTail, one-law, nothing-law, before-law, made-law, same-law, listed-law}
use Rattle.plat_text.proofs.FormLaws.{made-kind, made-again, choice-takes, choice-again}
use Rattle.plat_text.proofs.SectionLaws.{rest_lists, Took, took_then, IsSection, line-law, again_exactly}

-- ---- one word

module _ {A : Type 0} {of : List ℕ → Result A Why} {spell : A → List ℕ} {fits : A → Type 0} (law : IsWordForm of spell fits) where
  -- a line of one word
  pub single-law : IsTail (made (λ x. x.0) (one of · nothing)) (λ x. x) (λ x. spell x ∷ []) fits
  single-law =
      same-law (made-law (before-law (one-law law) nothing-law) (λ x. x.0) (λ x. x) (λ x. (x, tt)) (λ a. refl) (λ a d e. ap (λ p. p.0) e))
      (λ y h. (refl, h.0)) (λ y h. (refl, (h, tt)))

pub number_line-law : (low high : ℕ) → high < 2 ^ 32 →
    IsTail (number_line low high) (λ n. n) (λ n. decimal n ∷ []) (λ n. (low ≤ n) × (n ≤ high))
number_line-law low high fits = single-law (number-law low high fits)

pub page_size-small : (n : ℕ) → is_page_size n ≡ true → n < 2 ^ 32
page_size-small n e = grind (arith, nat_tests, e)

size-law : IsWordForm size_of decimal (λ n. is_page_size n ≡ true)
size-law = record {
  takes = λ w n e. taking (number_of w) page_size n e (λ m m-is e1.
      let passed = let_through (is_page_size m) m n why.PageWords e1 in
      ((number_of-takes w m m-is).0 ∙ ap decimal passed.1, ap is_page_size (sym passed.1) ∙ passed.0));
  again = λ n h. then_ok (number_of (decimal n)) page_size n _ (number_of-again n (page_size-small n h)) (rw h refl);
}

-- ---- the policy

abbrev pub policy_kind_words : PolicyKind → List (List ℕ)
policy_kind_words policy.Place = codes "place" ∷ []
policy_kind_words policy.Replicate = codes "replicate" ∷ []
policy_kind_words (policy.Platinum t1 t2) = codes "platinum" ∷ decimal t1 ∷ decimal t2 ∷ []

abbrev IsPolicy : PolicyKind → Type 0
IsPolicy p = IsTrue (is_policy p)

module _ (row : Row) where
  policy-takes : (p : PolicyKind) → policy_line row ≡ Ok p → (row_texts row ≡ policy_kind_words p) × IsPolicy p
  policy-takes p e = choice-takes (λ p. p) policy_kind_words IsPolicy policies why.UnknownPolicy row p (
    made-kind nothing-law (λ _. policy.Place) (λ p. p) (λ _. policy.Place) (λ a. refl) policy_kind_words IsPolicy (codes "place")
        (λ b h. (refl, refl)),
    (
      made-kind nothing-law (λ _. policy.Replicate) (λ p. p) (λ _. policy.Replicate) (λ a. refl) policy_kind_words IsPolicy
          (codes "replicate") (λ b h. (refl, refl)),
      (
        made-kind (before-law (one-law (number-law 0 1000000 (omega arith)))
            (before-law (one-law (number-law 64 1000000 (omega arith))) nothing-law))
            (λ x. policy.Platinum x.0 x.1.0) (λ p. p) (λ b. policy.Platinum b.0 b.1.0) (λ a. refl) policy_kind_words IsPolicy
            (codes "platinum")
            (λ b h. (
              refl,
              and_from (leb b.0 1000000) (is_within 64 1000000 b.1.0) (le-leb b.0 1000000 h.0.1)
                  (is_within-from 64 1000000 b.1.0 h.1.0.0 h.1.0.1),
            )),
        tt,
      ),
    ),
  ) e

  policy-again : (p : PolicyKind) → IsPolicy p → row_texts row ≡ policy_kind_words p → (x : PolicyKind) × (policy_line row ≡ Ok x) × (x ≡ p)
  policy-again policy.Place h e = choice-again (λ p. p) policy_kind_words IsPolicy policies why.UnknownPolicy row policy.Place
      (codes "place") [] e
      (λ fault after a. made-again nothing-law (λ _. policy.Place) (λ p. p) (λ _. policy.Place) (λ a. refl) after tt tt a)
  policy-again policy.Replicate h e = choice-again (λ p. p) policy_kind_words IsPolicy policies why.UnknownPolicy row policy.Replicate
      (codes "replicate") [] e
      (λ fault after a. made-again nothing-law (λ _. policy.Replicate) (λ p. p) (λ _. policy.Replicate) (λ a. refl) after tt tt a)
  policy-again (policy.Platinum t1 t2) h e =
      let parts = and_parts (leb t1 1000000) (is_within 64 1000000 t2) h in
      choice-again (λ p. p) policy_kind_words IsPolicy policies why.UnknownPolicy row (policy.Platinum t1 t2) (codes "platinum")
      (decimal t1 ∷ decimal t2 ∷ []) e
      (λ fault after a. made-again (before-law (one-law (number-law 0 1000000 (omega arith)))
      (before-law (one-law (number-law 64 1000000 (omega arith))) nothing-law))
      (λ x. policy.Platinum x.0 x.1.0) (λ p. p) (λ b. policy.Platinum b.0 b.1.0) (λ a. refl) after (t1, (t2, tt))
      ((omega arith, leb-true t1 1000000 parts.0), (is_within-true 64 1000000 t2 parts.1, tt)) a)

pub policy-law : IsTail policy_line (λ p. p) policy_kind_words IsPolicy
policy-law = record { takes = policy-takes; again = policy-again }

-- ---- the schedule

abbrev pub turns_words : Turns → List (List ℕ)
turns_words robin = codes "robin" ∷ []
turns_words (random a b) = codes "random" ∷ decimal a ∷ decimal b ∷ []
turns_words (listed actors) = codes "list" ∷ map decimal actors

abbrev IsSchedule : ℕ → Turns → Type 0
IsSchedule nodes t = IsTrue (is_schedule nodes t)

all_up_to : (nodes : ℕ) (xs : List ℕ) → AllByRecursion (λ n. (0 ≤ n) × (n ≤ nodes)) xs → list_all (λ a. leb a nodes) xs ≡ true
all_up_to nodes [] h = refl
all_up_to nodes (x ∷ xs) h = and_from (leb x nodes) (list_all (λ a. leb a nodes) xs) (le-leb x nodes h.0.1) (all_up_to nodes xs h.1)

up_to_all : (nodes : ℕ) (xs : List ℕ) → list_all (λ a. leb a nodes) xs ≡ true → AllByRecursion (λ n. (0 ≤ n) × (n ≤ nodes)) xs
up_to_all nodes [] h = tt
up_to_all nodes (x ∷ xs) h = let parts = and_parts (leb x nodes) (list_all (λ a. leb a nodes) xs) h in
    ((omega arith, leb-true x nodes parts.0), up_to_all nodes xs parts.1)

module _ (nodes : ℕ) (few : nodes < 2 ^ 32) (row : Row) where
  schedule-takes : (t : Turns) → schedule_line nodes row ≡ Ok t → (row_texts row ≡ turns_words t) × IsSchedule nodes t
  schedule-takes t e = choice-takes (λ t. t) turns_words (IsSchedule nodes) (schedules nodes) why.UnknownSchedule row t (
    made-kind nothing-law (λ _. robin) (λ t. t) (λ _. robin) (λ a. refl) turns_words (IsSchedule nodes) (codes "robin")
        (λ b h. (refl, refl)),
    (
      made-kind (before-law (one-law any-law) (before-law (one-law any-law) nothing-law)) (λ x. random x.0 x.1.0) (λ t. t)
          (λ b. random b.0 b.1.0) (λ a. refl)
          turns_words (IsSchedule nodes) (codes "random")
          (λ b h. (refl, and_from (is_number b.0) (is_number b.1.0) (lt-ltb b.0 4294967296 h.0) (lt-ltb b.1.0 4294967296 h.1.0))),
      (
        made-kind (listed-law (number-law 0 nodes few) 4096) listed (λ t. t) listed (λ a. refl) turns_words (IsSchedule nodes)
            (codes "list")
            (λ b h. (
              refl,
              and_from (is_within 1 4096 (length b)) (list_all (λ a. leb a nodes) b) (is_within-from 1 4096 (length b) h.0 h.1)
                  (all_up_to nodes b h.2),
            )),
        tt,
      ),
    ),
  ) e

  schedule-again : (t : Turns) → IsSchedule nodes t → row_texts row ≡ turns_words t → (x : Turns) × (schedule_line nodes row ≡ Ok x)
      × (x ≡ t)
  schedule-again robin h e = choice-again (λ t. t) turns_words (IsSchedule nodes) (schedules nodes) why.UnknownSchedule row robin
      (codes "robin") [] e
      (λ fault after a. made-again nothing-law (λ _. robin) (λ t. t) (λ _. robin) (λ a. refl) after tt tt a)
  schedule-again (random a b) h e =
      let parts = and_parts (is_number a) (is_number b) h in
      choice-again (λ t. t) turns_words (IsSchedule nodes) (schedules nodes) why.UnknownSchedule row (random a b) (codes "random")
      (decimal a ∷ decimal b ∷ []) e
      (λ fault after t. made-again (before-law (one-law any-law) (before-law (one-law any-law) nothing-law)) (λ x. random x.0 x.1.0)
      (λ t. t) (λ b. random b.0 b.1.0) (λ a. refl)
      after (a, (b, tt)) (ltb-true a 4294967296 parts.0, (ltb-true b 4294967296 parts.1, tt)) t)
  schedule-again (listed actors) h e =
      let parts = and_parts (is_within 1 4096 (length actors)) (list_all (λ a. leb a nodes) actors) h in
      let count = is_within-true 1 4096 (length actors) parts.0 in
      choice-again (λ t. t) turns_words (IsSchedule nodes) (schedules nodes) why.UnknownSchedule row (listed actors) (codes "list")
      (map decimal actors) e
      (λ fault after t. made-again (listed-law (number-law 0 nodes few) 4096) listed (λ t. t) listed (λ a. refl) after actors
      (count.0, count.1, up_to_all nodes actors parts.1) t)

pub schedule-law : (nodes : ℕ) → nodes < 2 ^ 32 → IsTail (schedule_line nodes) (λ t. t) turns_words (IsSchedule nodes)
schedule-law nodes few = record { takes = schedule-takes nodes few; again = schedule-again nodes few }

-- ---- all of them

abbrev pub header_lines : Header → List (List (List ℕ))
header_lines h =
    (codes "platinum" ∷ codes "1" ∷ [])
    ∷ (codes "nodes" ∷ decimal h.nodes ∷ [])
    ∷ (codes "frames" ∷ decimal h.frames ∷ [])
    ∷ (codes "words" ∷ decimal h.words ∷ [])
    ∷ (codes "pages" ∷ decimal h.pages ∷ [])
    ∷ (codes "policy" ∷ policy_kind_words h.policy)
    ∷ (codes "budget" ∷ decimal h.budget ∷ [])
    ∷ (codes "schedule" ∷ turns_words h.schedule)
    ∷ []

pub record HeaderFits (h : Header) : Type 0 where
  pub nodes : (1 ≤ h.nodes) × (h.nodes ≤ 8)
  pub frames : (1 ≤ h.frames) × (h.frames ≤ 64)
  pub words : is_page_size h.words ≡ true
  pub pages : (1 ≤ h.pages) × (h.pages ≤ 64)
  pub policy : IsPolicy h.policy
  pub budget : (1 ≤ h.budget) × (h.budget ≤ 65536)
  pub schedule : IsSchedule h.nodes h.schedule

version-section : IsSection (line_at (codes "platinum") version_line) (λ x. x) (λ _. (codes "platinum" ∷ codes "1" ∷ []) ∷ [])
    (λ _. Unit {0}) (λ _. Unit {0})
version-section = line-law (codes "platinum") (single-law (exactly-law (codes "1")))

number-section : (word : List ℕ) (low high : ℕ) → high < 2 ^ 32
    → IsSection (line_at word (number_line low high)) (λ n. n) (λ n. (word ∷ decimal n ∷ []) ∷ []) (λ n. (low ≤ n) × (n ≤ high))
    (λ _. Unit {0})
number-section word low high fits = line-law word (number_line-law low high fits)

size-section : IsSection (line_at (codes "words") size_line) (λ n. n) (λ n. (codes "words" ∷ decimal n ∷ []) ∷ [])
    (λ n. is_page_size n ≡ true) (λ _. Unit {0})
size-section = line-law (codes "words") (single-law size-law)

policy-section : IsSection (line_at (codes "policy") policy_line) (λ p. p) (λ p. (codes "policy" ∷ policy_kind_words p) ∷ []) IsPolicy
    (λ _. Unit {0})
policy-section = line-law (codes "policy") policy-law

schedule-section : (nodes : ℕ) → nodes < 2 ^ 32 →
    IsSection (line_at (codes "schedule") (schedule_line nodes)) (λ t. t) (λ t. (codes "schedule" ∷ turns_words t) ∷ []) (IsSchedule nodes)
    (λ _. Unit {0})
schedule-section nodes few = line-law (codes "schedule") (schedule-law nodes few)

header-takes : (rest : Rest) (h : Header) (after : Rest) → header_at rest ≡ Ok (h, after) → Took rest after (header_lines h) × HeaderFits h
unfolding header_at
header-takes rest h after e =
    taking (line_at (codes "platinum") version_line rest) _ _ e (λ v v-is e1.
    taking (line_at (codes "nodes") (number_line 1 8) v.1) _ _ e1 (λ n n-is e2.
    taking (line_at (codes "frames") (number_line 1 64) n.1) _ _ e2 (λ f f-is e3.
    taking (line_at (codes "words") size_line f.1) _ _ e3 (λ w w-is e4.
    taking (line_at (codes "pages") (number_line 1 64) w.1) _ _ e4 (λ p p-is e5.
    taking (line_at (codes "policy") policy_line p.1) _ _ e5 (λ o o-is e6.
    taking (line_at (codes "budget") (number_line 1 65536) o.1) _ _ e6 (λ b b-is e7.
    taking (line_at (codes "schedule") (schedule_line n.0) b.1) _ _ e7 (λ s s-is e8.
    let t0 = version-section.takes rest v.0 v.1 v-is in
    let t1 = (number-section (codes "nodes") 1 8 (omega arith)).takes v.1 n.0 n.1 n-is in
    let t2 = (number-section (codes "frames") 1 64 (omega arith)).takes n.1 f.0 f.1 f-is in
    let t3 = size-section.takes f.1 w.0 w.1 w-is in
    let t4 = (number-section (codes "pages") 1 64 (omega arith)).takes w.1 p.0 p.1 p-is in
    let t5 = policy-section.takes p.1 o.0 o.1 o-is in
    let t6 = (number-section (codes "budget") 1 65536 (omega arith)).takes o.1 b.0 b.1 b-is in
    let t7 = (schedule-section n.0 (omega (arith, t1.1))).takes b.1 s.0 s.1 s-is in
    let all : ◌≡◌ {A = Header} (record { nodes = n.0; frames = f.0; words = w.0; pages = p.0; policy = o.0; budget = b.0; schedule = s.0 })
    h = ok_first _ (h, after) e8 in
    let left : s.1 ≡ after = ok_second _ (h, after) e8 in
    rw (← all, ← left) (
      took_then _ _ _ _ _ t0.0 (took_then _ _ _ _ _ t1.0
          (took_then _ _ _ _ _ t2.0 (took_then _ _ _ _ _ t3.0
          (took_then _ _ _ _ _ t4.0 (took_then _ _ _ _ _ t5.0 (took_then _ _ _ _ _ t6.0 t7.0)))))),
      record { nodes = t1.1; frames = t2.1; words = t3.1; pages = t4.1; policy = t5.1; budget = t6.1; schedule = t7.1 },
    )))))))))

header-again : (rest : Rest) (h : Header) (more : List (List (List ℕ))) → HeaderFits h → rest_lists rest ≡ header_lines h ++ more
    → (after : Rest) × (header_at rest ≡ Ok (h, after)) × (rest_lists after ≡ more)
unfolding header_at
header-again rest h more fits e =
    let t0 = again_exactly version-section rest (tt {0}) _ tt tt e in
    let t1 = again_exactly (number-section (codes "nodes") 1 8 (omega arith)) t0.0 h.nodes _ fits.nodes tt t0.2 in
    let t2 = again_exactly (number-section (codes "frames") 1 64 (omega arith)) t1.0 h.frames _ fits.frames tt t1.2 in
    let t3 = again_exactly size-section t2.0 h.words _ fits.words tt t2.2 in
    let t4 = again_exactly (number-section (codes "pages") 1 64 (omega arith)) t3.0 h.pages _ fits.pages tt t3.2 in
    let t5 = again_exactly policy-section t4.0 h.policy _ fits.policy tt t4.2 in
    let t6 = again_exactly (number-section (codes "budget") 1 65536 (omega arith)) t5.0 h.budget _ fits.budget tt t5.2 in
    let t7 = again_exactly (schedule-section h.nodes (omega (arith, fits.nodes))) t6.0 h.schedule _ fits.schedule tt t6.2 in (
      t7.0,
      then_ok (line_at (codes "platinum") version_line rest) _ (tt {0}, t0.0) _ t0.1
          (then_ok (line_at (codes "nodes") (number_line 1 8) t0.0) _ (h.nodes, t1.0) _ t1.1
          (then_ok (line_at (codes "frames") (number_line 1 64) t1.0) _ (h.frames, t2.0) _ t2.1
          (then_ok (line_at (codes "words") size_line t2.0) _ (h.words, t3.0) _ t3.1
          (then_ok (line_at (codes "pages") (number_line 1 64) t3.0) _ (h.pages, t4.0) _ t4.1
          (then_ok (line_at (codes "policy") policy_line t4.0) _ (h.policy, t5.0) _ t5.1
          (then_ok (line_at (codes "budget") (number_line 1 65536) t5.0) _ (h.budget, t6.0) _ t6.1
          (then_ok (line_at (codes "schedule") (schedule_line h.nodes) t6.0) _ (h.schedule, t7.0) _ t7.1 refl))))))),
      t7.2,
    )

pub header-law : IsSection header_at (λ h. h) header_lines HeaderFits (λ _. Unit {0})
header-law = record {
  takes = header-takes;
  again = λ rest h more fits s e. let t = header-again rest h more fits e in (h, t.0, t.1, refl, t.2);
}
