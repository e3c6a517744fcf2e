-- what the invariant says of words and actors: it holds on for those that are as they were
use Rattle.std.specs.Prelude.{◌≡◌, ◌≢◌, ◌⊎◌, ℕ, ◌<◌, length, Option, Some, None, IsTrue}
use Rattle.std.proofs.Common.{refl, ap, sym, ◌∙◌, inl, inr, arith}
use Rattle.std.specs.Option.{option_map}
use Rattle.std.proofs.lemmas.Bool.{cases_eq}
use Rattle.std.proofs.lemmas.List.{length-set}
use Rattle.plat_base.specs.Verdicts.{Answer}
use Rattle.plat_base.specs.Machine.{Machine}
use Rattle.plat_base.specs.declared.items.Item.{Item}
use Rattle.plat_base.specs.declared.words.WordName.{WordName}
use Rattle.plat_events.specs.Places.{place_of, is_name, is_word, word_count}
use Rattle.plat_events.specs.Sessions.{Session}
use Rattle.plat_events.specs.Privates.{Private, actor_count}
use Rattle.plat_events.specs.Events.{with_item}
use Rattle.plat_events.specs.Kept.{Running, running_of, session_on, session_of, word_at, private_of}
use Rattle.plat_events.specs.Runs.{Fine}
use Rattle.plat_events.specs.Shown.{items_by, IsReachedAlone, Shows}
use Rattle.plat_words.proofs.PlacesApart.{place_of-apart}
use Rattle.plat_fine_laws.specs.Changes.{Changes, IsBy}
use Rattle.plat_fine_laws.proofs.WordLaws.{word_at-new, word_at-other}
use Rattle.plat_fine_laws.proofs.PrivateLaws.{private_of-new, private_of-other}
use Rattle.plat_fine_laws.proofs.JournalLaws.{items_by-own, items_by-other}

-- an actor with a session runs on its page
pub running-on :
    (m : Machine) (answer : Answer) (s : Fine) (a : ℕ) (r : Running) → Shows m answer s → a < actor_count m →
    running_of (a, private_of m s a) ≡ Some r → session_on s.privates r.session.fault.page ≡ Some r
running-on m answer s a r shows within runs = by (session_of (private_of m s a).place) refl runs
  where
    running : Session → Running
    running x = record { actor = a; now = (private_of m s a).now; session = x }

    by : (o : Option Session) → session_of (private_of m s a).place ≡ o → option_map running o ≡ Some r →
        session_on s.privates r.session.fault.page ≡ Some r
    by None at runs = absurd cc
    by (Some x) at runs =
        let same : running x ≡ r = cc in
        let on : session_on s.privates x.fault.page ≡ Some (running x) = shows.one_session a x within at in
        rw (sym same) on

module _ (m : Machine) (s t : Fine) (a : ℕ) (name : WordName) (word : ℕ) (p : Private) (made : Option Item)
    (changes : Changes m s t a name word p made) where
  -- another name is another word
  pub word_at-cases :
      (other : WordName) → IsTrue (is_name m name) → IsTrue (is_name m other) →
      (other ≡ name) ⊎ (word_at m t other ≡ word_at m s other)
  word_at-cases other named there = by (cases_eq (place_of m other) (place_of m name))
    where
      by : (place_of m other ≡ place_of m name) ⊎ (place_of m other ≢ place_of m name) →
          (other ≡ name) ⊎ (word_at m t other ≡ word_at m s other)
      by (inl same) = inl (place_of-apart m name other named there same)
      by (inr apart) = inr (word_at-other m s t a name word p made changes other named there (λ e. apart (ap (place_of m) e)))

  module _ (answer : Answer) (shows : Shows m answer s) where
    pub words_encoded-kept :
        IsTrue (is_name m name) → IsTrue (is_word m name word) →
        (other : WordName) → IsTrue (is_name m other) → IsTrue (is_word m other (word_at m t other))
    words_encoded-kept named encoded other there = by (word_at-cases other named there)
      where
        by : (other ≡ name) ⊎ (word_at m t other ≡ word_at m s other) → IsTrue (is_word m other (word_at m t other))
        by (inl same) =
            let new : word_at m t name ≡ word = word_at-new m s t a name word p made changes shows.all_words named in
            ap (λ n. is_word m n (word_at m t n)) same ∙ (ap (is_word m name) new ∙ encoded)
        by (inr same) = ap (is_word m other) same ∙ shows.words_encoded other there

    pub all_words-kept : length t.words ≡ word_count m
    all_words-kept = ap length changes.words ∙ (length-set s.words (place_of m name) word ∙ shows.all_words)

    pub all_privates-kept : length t.privates ≡ actor_count m
    all_privates-kept = ap length changes.privates ∙ (length-set s.privates a p ∙ shows.all_privates)

    -- what holds of the new private state and of each other one holds of all
    pub each-private :
        (Q : ℕ → Private → Type 0) → a < actor_count m → Q a p → ((b : ℕ) → b ≢ a → b < actor_count m → Q b (private_of m s b)) →
        (b : ℕ) → b < actor_count m → Q b (private_of m t b)
    each-private Q within here others b inside = by (cases_eq b a)
      where
        by : (b ≡ a) ⊎ (b ≢ a) → Q b (private_of m t b)
        by (inl same) =
            let count : a < length s.privates = omega (arith, shows.all_privates) in
            let new : private_of m t a ≡ p = private_of-new m s t a name word p made changes count in
            rw same (rw new here)
        by (inr apart) = rw (private_of-other m s t a name word p made changes b apart) (others b apart inside)

    pub journals-kept :
        a < actor_count m → p.journal ≡ with_item (private_of m s a).journal made → IsBy a made →
        (b : ℕ) → b < actor_count m → (private_of m t b).journal ≡ items_by b t.history
    journals-kept within own by_actor =
        each-private (λ b (q : Private). q.journal ≡ items_by b t.history) within
        (own ∙ (ap (λ l. with_item l made) (shows.journals_are_history a within)
        ∙ (sym (items_by-own a s.history made by_actor) ∙ ap (items_by a) (sym changes.history))))
        (λ b apart inside. shows.journals_are_history b inside
        ∙ (sym (items_by-other a b s.history made by_actor apart) ∙ ap (items_by b) (sym changes.history)))

    pub reached-kept :
        a < actor_count m → IsReachedAlone m answer a p → (b : ℕ) → b < actor_count m → IsReachedAlone m answer b (private_of m t b)
    reached-kept within here =
        each-private (λ b q. IsReachedAlone m answer b q) within here (λ b apart inside. shows.reached_alone b inside)
