-- what the meaning of a history decides: memory, the values that guests get, and so the guests
use Rattle.std.specs.Prelude.{◌≡◌, ℕ, ◌+◌, if◌then◌else◌, true, List, [], ◌∷◌, ◌++◌, map, Option, Some, None}
use Rattle.std.proofs.Common.{refl, ap, ◌∙◌}
use Rattle.std.specs.List.{fold, filter_map, cons_option}
use Rattle.std.proofs.lemmas.List.Elements.{filter_map-append}
use Rattle.plat_base.specs.Machine.{Machine}
use Rattle.plat_base.specs.Pages.{numbers, initial_value}
use Rattle.plat_base.specs.GuestRun.{GuestState, guest_run}
use Rattle.plat_base.specs.Flat.{writes_word, written, flat_value, flat_writes}
use Rattle.plat_base.specs.Done.{value_of, values_of}
use Rattle.plat_base.specs.Report.{printed}
use Rattle.plat_base.specs.Ends.{ended_of}
use Rattle.plat_base.specs.Coarse.{Coarse}
use Rattle.plat_base.specs.Turns.{guest_now}
use Rattle.plat_base.specs.declared.endings.Ended.{Ended}
use Rattle.plat_base.specs.declared.items.Item.{Item}
use Rattle.plat_base.specs.declared.items.Item.TheVariants as item
use Rattle.plat_laws.proofs.ItemLaws.{is_applied, all_applied, filter_map-still}
use Rattle.plat_policy_laws.specs.Meaning.{Meant, meant, items_meant, Meaning, meaning}
use Rattle.plat_policy_laws.specs.FlatRun.{writes_meant, written_meant, value_meant, word_after, writes_after, values_meant, FlatRun}
use Rattle.plat_policy_laws.specs.FlatRun.{flat_guest, flat_meaning}

-- ---- folds that what is meant decides

abbrev with_meant : {B : Type 0} → (B → Meant → B) → B → Option Meant → B
with_meant g b None = b
with_meant g b (Some x) = g b x

fold-meant :
    {B : Type 0} (f : B → Item → B) (g : B → Meant → B) → ((b : B) (i : Item) → f b i ≡ with_meant g b (meant i))
    → (b : B) (items : List Item) → fold f b items ≡ fold g b (items_meant items)
fold-meant f g h b [] = refl
fold-meant f g h b (i ∷ is) =
    fold-meant f g h (f b i) is ∙ (ap (λ c. fold g c (items_meant is)) (h b i) ∙ by (meant i))
  where
    by : (o : Option Meant) → fold g (with_meant g b o) (items_meant is) ≡ fold g b (cons_option o (items_meant is))
    by None = refl
    by (Some x) = refl

abbrev through : {C : Type 0} → (Meant → Option C) → Option Meant → Option C
through g None = None
through g (Some x) = g x

filter_map-meant :
    {C : Type 0} (f : Item → Option C) (g : Meant → Option C) → ((i : Item) → f i ≡ through g (meant i))
    → (items : List Item) → filter_map f items ≡ filter_map g (items_meant items)
filter_map-meant f g h [] = refl
filter_map-meant f g h (i ∷ is) = rw (h i, filter_map-meant f g h is) (by (meant i))
  where
    by : (o : Option Meant) → cons_option (through g o) (filter_map g (items_meant is)) ≡ filter_map g (cons_option o (items_meant is))
    by None = refl
    by (Some x) = refl

abbrev flat_step : (page word : ℕ) → ℕ → Item → ℕ
flat_step page word v i = if writes_word page word i then written i else v

abbrev meant_step : (page word : ℕ) → ℕ → Meant → ℕ
meant_step page word v x = if writes_meant page word x then written_meant x else v

pub flat_value-meant :
    (m : Machine) (items : List Item) (page word : ℕ)
    → flat_value m items page word ≡ word_after m (items_meant items) page word
flat_value-meant m items page word =
    fold-meant (flat_step page word) (meant_step page word) by (initial_value m page word) items
  where
    by : (v : ℕ) (i : Item) → flat_step page word v i ≡ with_meant (meant_step page word) v (meant i)
    by v (item.Access a) = refl
    by v (item.Change c) = refl
    by v (item.Applied x) = refl
    by v (item.Switch s) = refl

abbrev flat_count : (page word : ℕ) → ℕ → Item → ℕ
flat_count page word n i = if writes_word page word i then n + 1 else n

abbrev meant_count : (page word : ℕ) → ℕ → Meant → ℕ
meant_count page word n x = if writes_meant page word x then n + 1 else n

pub flat_writes-meant :
    (items : List Item) (page word : ℕ) → flat_writes items page word ≡ writes_after (items_meant items) page word
flat_writes-meant items page word = fold-meant (flat_count page word) (meant_count page word) by 0 items
  where
    by : (n : ℕ) (i : Item) → flat_count page word n i ≡ with_meant (meant_count page word) n (meant i)
    by n (item.Access a) = refl
    by n (item.Change c) = refl
    by n (item.Applied x) = refl
    by n (item.Switch s) = refl

pub values_of-meant : (q : ℕ) (items : List Item) → values_of q items ≡ values_meant q (items_meant items)
values_of-meant q items = filter_map-meant (value_of q) (value_meant q) by items
  where
    by : (i : Item) → value_of q i ≡ through (value_meant q) (meant i)
    by (item.Access a) = refl
    by (item.Change c) = refl
    by (item.Applied x) = refl
    by (item.Switch s) = refl

-- ---- items that mean nothing

pub items_meant-append : (xs ys : List Item) → items_meant (xs ++ ys) ≡ items_meant xs ++ items_meant ys
items_meant-append xs ys = filter_map-append meant xs ys

pub items_meant-applied : (xs : List Item) → all_applied xs ≡ true → items_meant xs ≡ []
items_meant-applied xs h = filter_map-still meant is_applied by xs h
  where
    by : (i : Item) → is_applied i ≡ true → meant i ≡ None
    by (item.Access a) h = absurd cc
    by (item.Change c) h = absurd cc
    by (item.Applied x) h = refl
    by (item.Switch s) h = absurd cc

-- ---- a run as its meaning shows it

abbrev pub flat_of : Coarse → FlatRun
flat_of s = record { items = items_meant s.history; ends = s.ends }

pub guest_now-flat : (m : Machine) (s : Coarse) (q : ℕ) → guest_now m s q ≡ flat_guest m (flat_of s) q
guest_now-flat m s q = ap (λ values. guest_run m q values (ended_of s.ends q).turns) (values_of-meant q s.history)

pub map-same : {A B : Type 0} (f g : A → B) → ((x : A) → f x ≡ g x) → (xs : List A) → map f xs ≡ map g xs
map-same f g h [] = refl
map-same f g h (x ∷ xs) = rw (h x, map-same f g h xs) refl

-- equal parts make an equal meaning
abbrev pub meaning_with : List Meant → List Ended → List GuestState → (prints memory : List (List ℕ)) → Meaning
meaning_with items ends guests prints memory =
    record { items = items; guests = guests; prints = prints; memory = memory; ends = ends }

pub meaning-parts :
    (items : List Meant) (ends : List Ended) (a b : List GuestState) (c d e f : List (List ℕ)) → a ≡ b → c ≡ d → e ≡ f
    → meaning_with items ends a c e ≡ meaning_with items ends b d f
meaning-parts items ends a b c d e f g p w = rw (g, p, w) refl

pub meaning-flat : (m : Machine) (s : Coarse) → meaning m s ≡ flat_meaning m (flat_of s)
meaning-flat m s =
    meaning-parts (items_meant s.history) s.ends _ _ _ _ _ _
    (map-same _ _ (λ q. ap (λ r. r.state) (guest_now-flat m s q)) (numbers m.nodes))
    (map-same (printed m s.history s.ends) _ (λ q. ap (λ r. r.prints) (guest_now-flat m s q)) (numbers m.nodes))
    (map-same _ _ (λ page. map-same _ _ (flat_value-meant m s.history page) (numbers m.words)) (numbers m.pages))
