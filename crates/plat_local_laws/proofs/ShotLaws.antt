-- shootdowns: where each operation leads
use Rattle.std.proofs.Common.{◌≡◌, ℕ, ◌+◌, ◌≤◌, Bool, true, List, [], ◌∷◌, ◌++◌, length, arith, length-append}
use Rattle.std.specs.Prelude.{◌==◌, nat_lt, if◌then◌else◌, IsTrue}
use Rattle.std.specs.List.{list_all}
use Rattle.std.proofs.lemmas.Bool.{cond_both, ltb-true, ltb-false}
use Rattle.std.proofs.lemmas.Bool.Decides.{nat_tests}
use Rattle.plat_base.specs.Machine.{Machine}
use Rattle.plat_base.specs.Pages.{entries_of_page}
use Rattle.plat_events.specs.Words.{has_references, has_message}
use Rattle.plat_events.specs.Places.{is_mask_word}
use Rattle.plat_events.specs.Shootdowns.{Shot, Posting, PostingOn, Asking, Interrupting, Watching, AskingAgain, Shoot, Makes, Polls, Done}
use Rattle.plat_events.specs.Shootdowns.{targets, target_at, ask_from, shoot_from, mask_found, is_active_in, shot_after}
use Rattle.plat_local_laws.specs.Phases.{IsPostLeft, TargetOk, ShotOk}

-- a shootdown as it stands: its masks are those of the machine, and only a processor polls
abbrev pub ShootOk : Machine → (a page : ℕ) → Shoot → Type 0
ShootOk m a page (Makes posts shot) = IsTrue (list_all (is_mask_word m) posts) × ShotOk m a page posts shot
ShootOk m a page (Polls posts k) = IsTrue (list_all (is_mask_word m) posts) × TargetOk m a page posts k × (a ≡ m.nodes → ⊥)
ShootOk m a page (Done posts) = IsTrue (list_all (is_mask_word m) posts) × (length posts ≡ length (entries_of_page m page))

list_all-push : (p : ℕ → Bool) (xs : List ℕ) (x : ℕ) → list_all p xs ≡ true → p x ≡ true → list_all p (xs ++ x ∷ []) ≡ true
list_all-push p [] x h k = grind (arith, nat_tests)
list_all-push p (y ∷ ys) x h k = grind (arith, nat_tests, list_all-push p ys x)

ask_from-ok :
    (m : Machine) (a page : ℕ) (posts : List ℕ) (k : ℕ) → IsTrue (list_all (is_mask_word m) posts)
    → length posts ≡ length (entries_of_page m page) → ShootOk m a page (ask_from m a page posts k)
ask_from-ok m a page posts k h e =
    cond_both (nat_lt k (length (targets m a page posts))) (Makes posts (Asking k)) (Done posts) (ShootOk m a page)
    (λ l. (h, record { posted = e; left = ltb-true k (length (targets m a page posts)) l })) (λ l. (h, e))

pub shoot_from-ok :
    (m : Machine) (a page : ℕ) (posts : List ℕ) → IsTrue (list_all (is_mask_word m) posts)
    → length posts ≤ length (entries_of_page m page) → ShootOk m a page (shoot_from m a page posts)
shoot_from-ok m a page posts h l =
    cond_both (nat_lt (length posts) (length (entries_of_page m page))) (Makes posts Posting) (ask_from m a page posts 0) (ShootOk m a page)
    (λ e. (h, ltb-true (length posts) (length (entries_of_page m page)) e))
    (λ e. ask_from-ok m a page posts 0 h (omega (arith, ltb-false (length posts) (length (entries_of_page m page)) e)))

posted-ok :
    (m : Machine) (a page : ℕ) (posts : List ℕ) (n : ℕ) → IsTrue (list_all (is_mask_word m) posts) → IsPostLeft m page posts
    → IsTrue (is_mask_word m n) → ShootOk m a page (shoot_from m a page (posts ++ n ∷ []))
posted-ok m a page posts n h l e =
    shoot_from-ok m a page (posts ++ n ∷ []) (list_all-push (is_mask_word m) posts n h e) (omega (arith, length-append posts (n ∷ [])))

mask_found-ok :
    (m : Machine) (a page : ℕ) (posts : List ℕ) (n : ℕ) → IsTrue (list_all (is_mask_word m) posts) → IsPostLeft m page posts
    → IsTrue (is_mask_word m n) → ShootOk m a page (mask_found m a page posts n)
mask_found-ok m a page posts n h l e =
    cond_both (has_references n) (Makes posts (PostingOn n)) (shoot_from m a page (posts ++ n ∷ [])) (ShootOk m a page)
    (λ some. (h, record { left = l; mask = e; found = some })) (λ none. posted-ok m a page posts n h l e)

-- what the number told is where it is followed
abbrev pub IsToldBy : Machine → Shot → ℕ → Type 0
IsToldBy m Posting n = IsTrue (is_mask_word m n)
IsToldBy m (PostingOn seen) n = IsTrue (is_mask_word m n)
IsToldBy m (Asking k) n = Unit {0}
IsToldBy m (Interrupting k) n = Unit {0}
IsToldBy m (Watching k) n = Unit {0}
IsToldBy m (AskingAgain k) n = Unit {0}

pub shot_after-ok :
    (m : Machine) (a page : ℕ) (posts : List ℕ) (n : ℕ) (shot : Shot) → IsTrue (list_all (is_mask_word m) posts)
    → ShotOk m a page posts shot → IsToldBy m shot n → ShootOk m a page (shot_after m a page posts n shot)
shot_after-ok m a page posts n Posting h s e = mask_found-ok m a page posts n h s e
shot_after-ok m a page posts n (PostingOn seen) h s e =
    cond_both (n == seen) (shoot_from m a page (posts ++ n ∷ [])) (mask_found m a page posts n) (ShootOk m a page)
    (λ _. posted-ok m a page posts n h s.left e) (λ _. mask_found-ok m a page posts n h s.left e)
shot_after-ok m a page posts n (Asking k) h s e =
    cond_both (is_active_in m (target_at m a page posts k) n) (Makes posts (Interrupting k)) (ask_from m a page posts (k + 1))
    (ShootOk m a page) (λ _. (h, s)) (λ _. ask_from-ok m a page posts (k + 1) h s.posted)
shot_after-ok m a page posts n (Interrupting k) h s e = (h, s)
shot_after-ok m a page posts n (Watching k) h s e =
    cond_both (has_message n (target_at m a page posts k).processor) (Makes posts (AskingAgain k)) (ask_from m a page posts (k + 1))
    (ShootOk m a page) (λ _. (h, s)) (λ _. ask_from-ok m a page posts (k + 1) h s.posted)
shot_after-ok m a page posts n (AskingAgain k) h s e =
    cond_both (is_active_in m (target_at m a page posts k) n)
    (if a == m.nodes then Makes posts (Watching k) else Polls posts k) (ask_from m a page posts (k + 1))
    (ShootOk m a page)
    (λ _. cond_both (a == m.nodes) (Makes posts (Watching k)) (Polls posts k) (ShootOk m a page)
    (λ _. (h, s)) (λ f. (h, s, λ q. absurd (grind (arith, nat_tests, f, q)))))
    (λ _. ask_from-ok m a page posts (k + 1) h s.posted)
