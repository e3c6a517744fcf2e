-- a shootdown of the machine stays one
use Rattle.std.proofs.Common.{◌≡◌, ℕ, ◌+◌, ◌<◌, Bool, true, false, if◌then◌else◌, List, [], ◌∷◌, ◌++◌, length, Some, refl}
use Rattle.std.specs.Prelude.{IsTrue, nat_lt, ◌==◌}
use Rattle.std.proofs.lemmas.Bool.{ltb-true}
use Rattle.plat_base.specs.Machine.{Machine}
use Rattle.plat_base.specs.Pages.{entries_of_page}
use Rattle.plat_base.specs.declared.items.Removed.{Removed}
use Rattle.plat_events.specs.Words.{has_references, has_message}
use Rattle.plat_events.specs.Places.{is_mask_word, is_word}
use Rattle.plat_events.specs.Events.{is_followed}
use Rattle.plat_events.specs.Shootdowns.{Shot, Posting, PostingOn, Asking, Interrupting, Watching, AskingAgain, Shoot, Makes, Polls, Done}
use Rattle.plat_events.specs.Shootdowns.{targets, target_at, ask_from, shoot_from, mask_found, is_active_in, shot_next, shot_after}
use Rattle.plat_shoot.specs.Steps.{ShotFits, ShootFits}
use Rattle.plat_shoot.specs.ShootSeen.{ShootSeen, ShootsOn, with_shoot, shoot_after, watch_again}

module _ (m : Machine) (a page : ℕ) where
  either :
      (b : Bool) (x y : Shoot) → (b ≡ true → ShootFits m a page x) → (b ≡ false → ShootFits m a page y) →
      ShootFits m a page (if b then x else y)
  either true x y f g = f refl
  either false x y f g = g refl

  pub ask_from-fits : (posts : List ℕ) (k : ℕ) → ShootFits m a page (ask_from m a page posts k)
  ask_from-fits posts k =
      either (nat_lt k (length (targets m a page posts))) (Makes posts (Asking k)) (Done posts)
      (λ h. ltb-true k (length (targets m a page posts)) h) (λ h. tt)

  pub shoot_from-fits : (posts : List ℕ) → ShootFits m a page (shoot_from m a page posts)
  shoot_from-fits posts =
      either (nat_lt (length posts) (length (entries_of_page m page))) (Makes posts Posting) (ask_from m a page posts 0)
      (λ h. ltb-true (length posts) (length (entries_of_page m page)) h) (λ h. ask_from-fits posts 0)

  mask_found-fits :
      (posts : List ℕ) (n : ℕ) → length posts < length (entries_of_page m page) → IsTrue (is_mask_word m n) →
      ShootFits m a page (mask_found m a page posts n)
  mask_found-fits posts n l w =
      either (has_references n) (Makes posts (PostingOn n)) (shoot_from m a page (posts ++ n ∷ [])) (λ h. (l, w))
      (λ h. shoot_from-fits (posts ++ n ∷ []))

  pub shot_after-fits :
      (rem : Removed) (posts : List ℕ) (n : ℕ) (shot : Shot) → ShotFits m a page posts shot →
      is_followed m (Some (shot_next m a page rem posts shot)) n ≡ true → ShootFits m a page (shot_after m a page posts n shot)
  shot_after-fits rem posts n Posting h f = mask_found-fits posts n h f
  shot_after-fits rem posts n (PostingOn seen) h f =
      either (n == seen) (shoot_from m a page (posts ++ n ∷ [])) (mask_found m a page posts n)
      (λ e. shoot_from-fits (posts ++ n ∷ [])) (λ e. mask_found-fits posts n h.0 f)
  shot_after-fits rem posts n (Asking k) h f =
      either (is_active_in m (target_at m a page posts k) n) (Makes posts (Interrupting k)) (ask_from m a page posts (k + 1))
      (λ e. h) (λ e. ask_from-fits posts (k + 1))
  shot_after-fits rem posts n (Interrupting k) h f = h
  shot_after-fits rem posts n (Watching k) h f =
      either (has_message n (target_at m a page posts k).processor) (Makes posts (AskingAgain k)) (ask_from m a page posts (k + 1))
      (λ e. h) (λ e. ask_from-fits posts (k + 1))
  shot_after-fits rem posts n (AskingAgain k) h f =
      either (is_active_in m (target_at m a page posts k) n) (if a == m.nodes then Makes posts (Watching k) else Polls posts k)
      (ask_from m a page posts (k + 1))
      (λ e. either (a == m.nodes) (Makes posts (Watching k)) (Polls posts k) (λ d. h) (λ d. h)) (λ e. ask_from-fits posts (k + 1))

  -- no operation of a shootdown is a store, so each tells what it found
  pub followed-word :
      (rem : Removed) (posts : List ℕ) (n : ℕ) (shot : Shot) → is_word m (shot_next m a page rem posts shot).0 n ≡ true →
      is_followed m (Some (shot_next m a page rem posts shot)) n ≡ true
  followed-word rem posts n Posting h = h
  followed-word rem posts n (PostingOn seen) h = h
  followed-word rem posts n (Asking k) h = h
  followed-word rem posts n (Interrupting k) h = h
  followed-word rem posts n (Watching k) h = h
  followed-word rem posts n (AskingAgain k) h = h

  pub watch_again-fits : (shoot : Shoot) → ShootFits m a page shoot → ShootFits m a page (watch_again shoot)
  watch_again-fits (Makes posts shot) h = h
  watch_again-fits (Polls posts k) h = h
  watch_again-fits (Done posts) h = h

shoot_after-fits :
    (m : Machine) (s : ShootSeen) (n : ℕ) (shoot : Shoot) → ShootFits m s.actor s.page shoot →
    ShootFits m s.actor s.page (shoot_after m s n shoot)
shoot_after-fits m s n (Makes posts shot) h =
    either m s.actor s.page (is_followed m (Some (shot_next m s.actor s.page s.removed posts shot)) n)
    (shot_after m s.actor s.page posts n shot) (Makes posts shot)
    (λ f. shot_after-fits m s.actor s.page s.removed posts n shot h f) (λ f. h)
shoot_after-fits m s n (Polls posts k) h = h
shoot_after-fits m s n (Done posts) h = h

-- what an operation found leaves a shootdown of the machine, and so does a poll
pub ShootsOn-after : (m : Machine) (s : ShootSeen) (n : ℕ) → ShootsOn m s → ShootsOn m (with_shoot s (shoot_after m s n s.shoot))
ShootsOn-after m s n h = record { actor = h.actor; page = h.page; shoot = shoot_after-fits m s n s.shoot h.shoot }

pub ShootsOn-polled : (m : Machine) (s : ShootSeen) → ShootsOn m s → ShootsOn m (with_shoot s (watch_again s.shoot))
ShootsOn-polled m s h = record { actor = h.actor; page = h.page; shoot = watch_again-fits m s.actor s.page s.shoot h.shoot }
