-- two neighbours of a good history by two actors, the first of which need not stand before the second, may change places
use Rattle.std.specs.Prelude.{◌≡◌, ◌≢◌, ◌⊎◌, ℕ, ◌+◌, ◌==◌, ◌&&◌, ◌||◌, if◌then◌else◌, Bool, true, false, List, [], ◌∷◌, ◌++◌, None}
use Rattle.std.proofs.Common.{refl, ap, sym, ◌∙◌, inl, inr}
use Rattle.std.specs.List.{list_any}
use Rattle.std.proofs.lemmas.Bool.{cases_Bool, eqb-true, ne_eqb}
use Rattle.plat_base.specs.Verdicts.{Answer}
use Rattle.plat_base.specs.Machine.{Machine}
use Rattle.plat_base.specs.Done.{values_of, operations_of}
use Rattle.plat_base.specs.Flat.{is_write, writes_word, written, flat_value, flat_writes}
use Rattle.plat_base.specs.Directories.{change_on, dir_after, dir_of, seq_after, seq_of, last_after, last_of}
use Rattle.plat_base.specs.Held.{held_after, active_after, active, is_later_change, later, removes_all, removes_writes}
use Rattle.plat_base.specs.Rules.{bad_rule, bad_at, bad_after}
use Rattle.plat_base.specs.declared.items.Removed.{Removed}
use Rattle.plat_base.specs.declared.items.Item.{Item}
use Rattle.plat_base.specs.declared.items.Item.TheVariants as item
use Rattle.plat_events.specs.Shown.{actor_of}
use Rattle.plat_laws.proofs.ItemLaws.{or-false, is_by, held-not_mine, values_of-not_mine, operations_of-not_mine}
use Rattle.plat_laws.proofs.ItemLaws.{values_of-append, operations_of-append, held-append, active-append, flat_value-append}
use Rattle.plat_laws.proofs.ItemLaws.{flat_writes-append, dir_of-append, seq_of-append, last_of-append}
use Rattle.plat_merge_laws.proofs.ReadLemmas.{SameOwn, SameWord, SamePage, bad_rule-access, bad_rule-change, bad_rule-applied}
use Rattle.plat_merge_laws.proofs.ReadLemmas.{bad_rule-switch}
use Rattle.plat_base.proofs.ListLemmas.{list_any-push}
use Rattle.plat_events.proofs.ActorLemmas.{active_after-other}

-- ---- the same in all that a rule may read

pub record Same (m : Machine) (xs ys : List Item) : Type 0 where
  pub own : (q : ℕ) → SameOwn m xs ys q
  pub word : (page word : ℕ) → SameWord m xs ys page word
  pub page : (page : ℕ) → SamePage xs ys page
  pub removals : (test : Removed → Bool) (page seq : ℕ) → later test xs page seq ≡ later test ys page seq

-- ---- one more item

module _ (m : Machine) (xs ys : List Item) (x : Item) where
  own-more : (q : ℕ) → SameOwn m xs ys q → SameOwn m (xs ++ x ∷ []) (ys ++ x ∷ []) q
  own-more q h = record {
    values = values_of-append q xs (x ∷ []) ∙ (ap (λ vs. vs ++ values_of q (x ∷ [])) h.values ∙ sym (values_of-append q ys (x ∷ [])));
    operations =
        operations_of-append q xs (x ∷ [])
        ∙ (ap (λ os. os ++ operations_of q (x ∷ [])) h.operations ∙ sym (operations_of-append q ys (x ∷ [])));
    holds = λ e. held-append m xs (x ∷ []) q e ∙ (ap (λ t. held_after m q e t x) (h.holds e) ∙ sym (held-append m ys (x ∷ []) q e));
    is_in = active-append m xs (x ∷ []) q ∙ (ap (λ s. active_after q s x) h.is_in ∙ sym (active-append m ys (x ∷ []) q));
  }

  word-more : (page word : ℕ) → SameWord m xs ys page word → SameWord m (xs ++ x ∷ []) (ys ++ x ∷ []) page word
  word-more page word h = record {
    value =
        flat_value-append m xs (x ∷ []) page word
        ∙ (ap (λ v. if writes_word page word x then written x else v) h.value ∙ sym (flat_value-append m ys (x ∷ []) page word));
    writes =
        flat_writes-append xs (x ∷ []) page word
        ∙ (ap (λ n. if writes_word page word x then n + 1 else n) h.writes ∙ sym (flat_writes-append ys (x ∷ []) page word));
  }

  page-more : (page : ℕ) → SamePage xs ys page → SamePage (xs ++ x ∷ []) (ys ++ x ∷ []) page
  page-more page h = record {
    dir = dir_of-append xs (x ∷ []) page ∙ (ap (λ d. dir_after d (change_on page x)) h.dir ∙ sym (dir_of-append ys (x ∷ []) page));
    seq = seq_of-append xs (x ∷ []) page ∙ (ap (λ n. seq_after n (change_on page x)) h.seq ∙ sym (seq_of-append ys (x ∷ []) page));
    last = last_of-append xs (x ∷ []) page ∙ (ap (λ t. last_after t (change_on page x)) h.last ∙ sym (last_of-append ys (x ∷ []) page));
  }

  removals-more :
      (test : Removed → Bool) (page seq : ℕ) → later test xs page seq ≡ later test ys page seq
      → later test (xs ++ x ∷ []) page seq ≡ later test (ys ++ x ∷ []) page seq
  removals-more test page seq h =
      list_any-push (is_later_change test page seq) xs x
      ∙ (ap (λ b. b || is_later_change test page seq x) h ∙ sym (list_any-push (is_later_change test page seq) ys x))

  pub same-more : Same m xs ys → Same m (xs ++ x ∷ []) (ys ++ x ∷ [])
  same-more h = record {
    own = λ q. own-more q (h.own q);
    word = λ page word. word-more page word (h.word page word);
    page = λ page. page-more page (h.page page);
    removals = λ test page seq. removals-more test page seq (h.removals test page seq);
  }

-- ---- one more item that a rule does not read

is_by-actor : (q : ℕ) (x : Item) → is_by q x ≡ (actor_of x == q)
is_by-actor q (item.Access a) = refl
is_by-actor q (item.Change c) = refl
is_by-actor q (item.Applied x) = refl
is_by-actor q (item.Switch s) = refl

module _ (m : Machine) (xs : List Item) (x : Item) where
  pub own-idle : (q : ℕ) → (actor_of x == q) ≡ false → SameOwn m (xs ++ x ∷ []) xs q
  own-idle q h = record {
    values = values_of-not_mine q xs (x ∷ []) none;
    operations = operations_of-not_mine q xs (x ∷ []) none;
    holds = λ e. held-not_mine m xs (x ∷ []) q e none;
    is_in = active-append m xs (x ∷ []) q ∙ active_after-other q (active m xs q) x h;
  }
    where
      none : list_any (is_by q) (x ∷ []) ≡ false
      none = or-false (is_by q x) ∙ (is_by-actor q x ∙ h)

  pub word-idle : (page word : ℕ) → writes_word page word x ≡ false → SameWord m (xs ++ x ∷ []) xs page word
  word-idle page word h = record {
    value = flat_value-append m xs (x ∷ []) page word ∙ ap (λ (b : Bool). if b then written x else flat_value m xs page word) h;
    writes = flat_writes-append xs (x ∷ []) page word
        ∙ ap (λ (b : Bool). if b then flat_writes xs page word + 1 else flat_writes xs page word) h;
  }

  pub page-idle : (page : ℕ) → change_on page x ≡ None → SamePage (xs ++ x ∷ []) xs page
  page-idle page h = record {
    dir = dir_of-append xs (x ∷ []) page ∙ ap (dir_after (dir_of xs page)) h;
    seq = seq_of-append xs (x ∷ []) page ∙ ap (seq_after (seq_of xs page)) h;
    last = last_of-append xs (x ∷ []) page ∙ ap (last_after (last_of xs page)) h;
  }

-- ---- two items in either order

pub own-back : {m : Machine} {xs ys : List Item} {q : ℕ} → SameOwn m xs ys q → SameOwn m ys xs q
own-back h = record { values = sym h.values; operations = sym h.operations; holds = λ e. sym (h.holds e); is_in = sym h.is_in }

own-then : {m : Machine} {xs ys zs : List Item} {q : ℕ} → SameOwn m xs ys q → SameOwn m ys zs q → SameOwn m xs zs q
own-then h k = record {
  values = h.values ∙ k.values;
  operations = h.operations ∙ k.operations;
  holds = λ e. h.holds e ∙ k.holds e;
  is_in = h.is_in ∙ k.is_in;
}

pub word-back : {m : Machine} {xs ys : List Item} {page word : ℕ} → SameWord m xs ys page word → SameWord m ys xs page word
word-back h = record { value = sym h.value; writes = sym h.writes }

word-then : {m : Machine} {xs ys zs : List Item} {page word : ℕ} → SameWord m xs ys page word → SameWord m ys zs page word →
    SameWord m xs zs page word
word-then h k = record { value = h.value ∙ k.value; writes = h.writes ∙ k.writes }

pub page-back : {xs ys : List Item} {page : ℕ} → SamePage xs ys page → SamePage ys xs page
page-back h = record { dir = sym h.dir; seq = sym h.seq; last = sym h.last }

page-then : {xs ys zs : List Item} {page : ℕ} → SamePage xs ys page → SamePage ys zs page → SamePage xs zs page
page-then h k = record { dir = h.dir ∙ k.dir; seq = h.seq ∙ k.seq; last = h.last ∙ k.last }

or-swapped : (b c d : Bool) → ((b || c) || d) ≡ ((b || d) || c)
or-swapped true c d = refl
or-swapped false true true = refl
or-swapped false true false = refl
or-swapped false false true = refl
or-swapped false false false = refl

module _ (m : Machine) (xs : List Item) (j i : Item) where
  pub own-swapped : (q : ℕ) → (actor_of j ≢ actor_of i) → SameOwn m ((xs ++ j ∷ []) ++ i ∷ []) ((xs ++ i ∷ []) ++ j ∷ []) q
  own-swapped q apart = by (cases_Bool (actor_of j == q))
    where
      by : ((actor_of j == q) ≡ true) ⊎ ((actor_of j == q) ≡ false) → SameOwn m ((xs ++ j ∷ []) ++ i ∷ []) ((xs ++ i ∷ []) ++ j ∷ []) q
      by (inl mine) =
          let other : (actor_of i == q) ≡ false = ne_eqb (actor_of i) q (λ e. apart (eqb-true (actor_of j) q mine ∙ sym e)) in
          own-then (own-idle m (xs ++ j ∷ []) i q other) (own-back (own-more m (xs ++ i ∷ []) xs j q (own-idle m xs i q other)))
      by (inr other) = own-then (own-more m (xs ++ j ∷ []) xs i q (own-idle m xs j q other))
          (own-back (own-idle m (xs ++ i ∷ []) j q other))

  pub word-swapped :
      (page word : ℕ) → (writes_word page word j ≡ false) ⊎ (writes_word page word i ≡ false)
      → SameWord m ((xs ++ j ∷ []) ++ i ∷ []) ((xs ++ i ∷ []) ++ j ∷ []) page word
  word-swapped page word (inl h) =
      word-then (word-more m (xs ++ j ∷ []) xs i page word (word-idle m xs j page word h))
      (word-back (word-idle m (xs ++ i ∷ []) j page word h))
  word-swapped page word (inr h) =
      word-then (word-idle m (xs ++ j ∷ []) i page word h)
      (word-back (word-more m (xs ++ i ∷ []) xs j page word (word-idle m xs i page word h)))

  pub page-swapped :
      (page : ℕ) → (change_on page j ≡ None) ⊎ (change_on page i ≡ None)
      → SamePage ((xs ++ j ∷ []) ++ i ∷ []) ((xs ++ i ∷ []) ++ j ∷ []) page
  page-swapped page (inl h) =
      page-then (page-more m (xs ++ j ∷ []) xs i page (page-idle m xs j page h)) (page-back (page-idle m (xs ++ i ∷ []) j page h))
  page-swapped page (inr h) =
      page-then (page-idle m (xs ++ j ∷ []) i page h) (page-back (page-more m (xs ++ i ∷ []) xs j page (page-idle m xs i page h)))

  pub removals-swapped :
      (test : Removed → Bool) (page seq : ℕ) → later test ((xs ++ j ∷ []) ++ i ∷ []) page seq
      ≡ later test ((xs ++ i ∷ []) ++ j ∷ []) page seq
  removals-swapped test page seq =
      let f = is_later_change test page seq in
      list_any-push f (xs ++ j ∷ []) i
      ∙ (ap (λ b. b || f i) (list_any-push f xs j)
      ∙ (or-swapped (list_any f xs) (f j) (f i)
      ∙ (ap (λ b. b || f j) (sym (list_any-push f xs i)) ∙ sym (list_any-push f (xs ++ i ∷ []) j))))

-- ---- the rules behind items that are the same

module _ (m : Machine) (answer : Answer) where
  pub bad_rule-same : (xs ys : List Item) (i : Item) → Same m xs ys → bad_rule m answer xs i ≡ bad_rule m answer ys i
  bad_rule-same xs ys (item.Access a) h =
      bad_rule-access m answer xs ys a (h.own a.actor)
      (record {
        all = h.removals removes_all a.page a.grant;
        writes = ap (λ b. is_write a.kind && b) (h.removals removes_writes a.page a.grant);
      }) (h.word a.page a.word)
  bad_rule-same xs ys (item.Change c) h = bad_rule-change m answer xs ys c (h.own c.actor) (h.page c.page)
  bad_rule-same xs ys (item.Applied x) h = bad_rule-applied m answer xs ys x (h.own x.actor)
  bad_rule-same xs ys (item.Switch s) h = bad_rule-switch m answer xs ys s (h.own s.actor)

  pub bad_after-same : (xs ys : List Item) (n : ℕ) (zs : List Item) → Same m xs ys → bad_after m answer xs n zs ≡ bad_after m answer ys n zs
  bad_after-same xs ys n [] h = refl
  bad_after-same xs ys n (z ∷ zs) h =
      ap (λ r. bad_at n r (bad_after m answer (xs ++ z ∷ []) (n + 1) zs)) (bad_rule-same xs ys z h)
      ∙ ap (bad_at n (bad_rule m answer ys z)) (bad_after-same (xs ++ z ∷ []) (ys ++ z ∷ []) (n + 1) zs (same-more m xs ys z h))
