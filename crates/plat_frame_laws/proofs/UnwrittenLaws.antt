-- no word of an empty page was written, in whatever breaks no rule
use Rattle.std.specs.Prelude.{◌≡◌, ℕ, ◌+◌, ◌==◌, ◌&&◌, if◌then◌else◌, Bool, true, false, List, [], ◌∷◌, ◌++◌, Option, Some, None}
use Rattle.std.proofs.Common.{refl, ap, sym, ◌∙◌, subst}
use Rattle.std.proofs.lemmas.Bool.{and_parts, eqb-true, true≢false}
use Rattle.std.proofs.lemmas.List.{append-nil, append_assoc}
use Rattle.plat_base.specs.Verdicts.{Answer}
use Rattle.plat_base.specs.Machine.{Machine}
use Rattle.plat_base.specs.Pages.{initial_value}
use Rattle.plat_base.specs.Flat.{is_write, writes_word, flat_value, flat_writes}
use Rattle.plat_base.specs.Directories.{dir_of}
use Rattle.plat_base.specs.Copies.{copy_on}
use Rattle.plat_base.specs.Decide.{is_empty}
use Rattle.plat_base.specs.Rules.{bad_rule, bad_after, bad_ends, bad_or, first_bad, is_chained, Good}
use Rattle.plat_base.specs.declared.endings.Ended.{Ended}
use Rattle.plat_base.specs.declared.frames.Dir.{Dir}
use Rattle.plat_base.specs.declared.items.Access.{Access}
use Rattle.plat_base.specs.declared.items.Change.{Change}
use Rattle.plat_base.specs.declared.items.Item.{Item}
use Rattle.plat_base.specs.declared.items.Item.TheVariants as item
use Rattle.plat_base.specs.declared.statuses.Bad.{Bad}
use Rattle.plat_base.specs.declared.statuses.Rule.TheVariants as rule
use Rattle.plat_laws.proofs.AccessLaws.{not_removed, by_grant}
use Rattle.plat_laws.proofs.ChangeLaws.{IsGoodChange, good_change}
use Rattle.plat_laws.proofs.CopyLaws.{IsCurrent, IsAtCopy, at_copy, current-start}
use Rattle.plat_laws.proofs.CopyChangeLaws.{current-item}
use Rattle.plat_laws.proofs.ItemLaws.{dir_of-access, dir_of-change, dir_of-switch, dir_of-applied, flat_writes-append, flat_writes-change}
use Rattle.plat_laws.proofs.ItemLaws.{flat_writes-switch, flat_writes-applied}
use Rattle.plat_laws.proofs.TableLaws.{copy_on-empty}
use Rattle.plat_base.proofs.RuleLemmas.{unless-none, bad_at-none}
use Rattle.plat_laws.proofs.HistoryLaws.{good-items}

-- no word of an empty page was written
abbrev pub IsUnwritten : List Item → Type 0
IsUnwritten xs = (page w : ℕ) → is_empty (dir_of xs page).state ≡ true → flat_writes xs page w ≡ 0

unwritten-access :
    (m : Machine) (xs : List Item) (a : Access) → IsCurrent m xs → IsAtCopy xs a → IsUnwritten xs → IsUnwritten (xs ++ item.Access a ∷ [])
unwritten-access m xs a current at k page w empty =
    by (writes_word page w (item.Access a)) refl
  where
    before : is_empty (dir_of xs page).state ≡ true
    before = sym (ap (λ (d : Dir). is_empty d.state) (dir_of-access xs a page)) ∙ empty

    by : (b : Bool) → writes_word page w (item.Access a) ≡ b → flat_writes (xs ++ item.Access a ∷ []) page w ≡ 0
    by false other =
        flat_writes-append xs (item.Access a ∷ []) page w
        ∙ (ap (λ (b : Bool). if b then flat_writes xs page w + 1 else flat_writes xs page w) other ∙ k page w before)
    by true writes =
        let all = and_parts (is_write a.kind && a.page == page) (a.word == w) writes in
        let two = and_parts (is_write a.kind) (a.page == page) all.0 in
        let same : a.page ≡ page = eqb-true a.page page two.1 in
        let copy : copy_on a.frame.module (dir_of xs page).copies ≡ Some a.frame =
        ap (λ (n : ℕ). copy_on a.frame.module (dir_of xs n).copies) (sym same) ∙ at.copy in
        let none = copy_on-empty m (dir_of xs page) a.frame.module (current.page page).dir before in
        absurd cc

unwritten-change :
    (m : Machine) (xs : List Item) (c : Change) → IsGoodChange m xs c → IsUnwritten xs → IsUnwritten (xs ++ item.Change c ∷ [])
unwritten-change m xs c good k page w empty = by (c.page == page) refl
  where
    by : (b : Bool) → (c.page == page) ≡ b → flat_writes (xs ++ item.Change c ∷ []) page w ≡ 0
    by false other =
        let dir : dir_of (xs ++ item.Change c ∷ []) page ≡ dir_of xs page =
        dir_of-change xs c page ∙ ap (λ (b : Bool). if b then c.after else dir_of xs page) other in
        flat_writes-change xs c page w ∙ k page w (sym (ap (λ (d : Dir). is_empty d.state) dir) ∙ empty)
    by true here =
        let dir : dir_of (xs ++ item.Change c ∷ []) page ≡ c.after =
        dir_of-change xs c page ∙ ap (λ (b : Bool). if b then c.after else dir_of xs page) here in
        absurd (true≢false (sym (sym (ap (λ (d : Dir). is_empty d.state) dir) ∙ empty) ∙ good.facts.filled))

unwritten-item :
    (m : Machine) (answer : Answer) (xs : List Item) (i : Item) → bad_rule m answer xs i ≡ None → IsCurrent m xs → IsUnwritten xs →
    IsUnwritten (xs ++ i ∷ [])
unwritten-item m answer xs (item.Access a) h current k =
    let kept = not_removed m answer xs a h in
    unwritten-access m xs a current (at_copy m xs a current (by_grant m answer xs a h) kept.0 kept.1) k
unwritten-item m answer xs (item.Change c) h current k =
    unwritten-change m xs c (good_change m answer xs c (unless-none (is_chained m answer xs c) rule.Chain h)) k
unwritten-item m answer xs (item.Applied x) h current k = λ page w empty.
    flat_writes-applied xs (item.Applied x ∷ []) page w refl
    ∙ k page w (sym (ap (λ (d : Dir). is_empty d.state) (dir_of-applied xs (item.Applied x ∷ []) page refl)) ∙ empty)
unwritten-item m answer xs (item.Switch x) h current k = λ page w empty.
    flat_writes-switch xs x page w ∙ k page w (sym (ap (λ (d : Dir). is_empty d.state) (dir_of-switch xs x page)) ∙ empty)

-- both at once, along a history
record IsSettled (m : Machine) (xs : List Item) : Type 0 where
  current : IsCurrent m xs
  unwritten : IsUnwritten xs

settled-items :
    (m : Machine) (answer : Answer) (xs : List Item) (n : ℕ) (is : List Item) → bad_after m answer xs n is ≡ None → IsSettled m xs →
    IsSettled m (xs ++ is)
settled-items m answer xs n [] h k = rw append-nil k
settled-items m answer xs n (i ∷ is) h k =
    let both = bad_at-none n (bad_rule m answer xs i) (bad_after m answer (xs ++ i ∷ []) (n + 1) is) h in
    subst (IsSettled m) (append_assoc xs (i ∷ []) is)
    (settled-items m answer (xs ++ i ∷ []) (n + 1) is both.1
    (record {
      current = current-item m answer xs i both.0 k.current;
      unwritten = unwritten-item m answer xs i both.0 k.current k.unwritten;
    }))

settled-good :
    (m : Machine) (answer : Answer) (items : List Item) (ends : List Ended) → Good m answer items ends → IsSettled m items
settled-good m answer items ends good =
    settled-items m answer [] 0 items (good-items m answer items ends good)
    (record { current = current-start m; unwritten = λ page w empty. refl })

-- a word of an empty page has its initial value, and was never written
pub good-unwritten :
    (m : Machine) (answer : Answer) (items : List Item) (ends : List Ended) (page w : ℕ) → Good m answer items ends →
    is_empty (dir_of items page).state ≡ true → (flat_value m items page w ≡ initial_value m page w) × (flat_writes items page w ≡ 0)
good-unwritten m answer items ends page w good empty =
    let settled = settled-good m answer items ends good in ((settled.current.page page).unwritten w empty, settled.unwritten page w empty)
