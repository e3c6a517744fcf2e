-- flat memory after one more access
use Rattle.std.proofs.Common.{◌≡◌, ℕ, ◌+◌, ◌*◌, ◌<◌, ◌≢◌, ◌⊎◌, ⊎_elim, inl, inr, ap, true, false, Bool, List, [], ◌∷◌, ◌++◌, length, get_or}
use Rattle.std.proofs.Common.{set, refl, ◌∙◌, arith}
use Rattle.std.specs.Prelude.{◌==◌, ◌&&◌, not, if◌then◌else◌}
use Rattle.std.proofs.lemmas.Bool.{and_parts, cases_Bool, eqb-true}
use Rattle.std.proofs.lemmas.Bool.Decides.{nat_tests}
use Rattle.std.proofs.lemmas.Grind.{fold-append, get_or-set_at}
use Rattle.std.proofs.lemmas.List.{get_or-set_other}
use Rattle.std.proofs.lemmas.Nat.{same_from_place, mul-add-lt}
use Rattle.std.proofs.Math.Nat.{mul_comm}
use Rattle.plat_base.specs.Machine.{Machine}
use Rattle.plat_base.specs.Pages.{initial_value}
use Rattle.plat_base.specs.Flat.{is_write, writes_word, written, flat_value, flat_writes}
use Rattle.plat_base.specs.declared.items.Access.{Access}
use Rattle.plat_base.specs.declared.items.Item.{Item}
use Rattle.plat_base.specs.declared.items.Item.TheVariants as item
use Rattle.plat_base.specs.declared.items.Kind.{Kind}
use Rattle.plat_base.specs.declared.items.Kind.TheVariants as kind
use Rattle.plat_base.specs.contracts.items.Kind.{the_type}
use Rattle.plat_base.specs.Accesses.{writes_made}
use denote.Enum.Bare.{sameb}
use Rattle.plat_flat.specs.FlatSeen.{FlatSeen, IsFlatOf, FitsPages, place}

-- ---- one more item

flat_value-push :
    (m : Machine) (items : List Item) (i : Item) (page word : ℕ)
    → flat_value m (items ++ i ∷ []) page word ≡ (if writes_word page word i then written i else flat_value m items page word)
flat_value-push m items i page word =
    fold-append (λ v i. if writes_word page word i then written i else v) (initial_value m page word) items (i ∷ [])

flat_writes-push :
    (items : List Item) (i : Item) (page word : ℕ)
    → flat_writes (items ++ i ∷ []) page word
    ≡ (if writes_word page word i then flat_writes items page word + 1 else flat_writes items page word)
flat_writes-push items i page word =
    fold-append (λ n i. if writes_word page word i then n + 1 else n) 0 items (i ∷ [])

-- ---- a write, at one word

-- a word stands in the list of all words
pub place-within :
    (pages words page word n : ℕ) → n ≡ pages * words → page < pages → word < words → place words page word < n
place-within pages words page word n e p w = omega (arith, mul-add-lt page words word pages p w, mul_comm words pages)

-- a word is the written one, or stands elsewhere
same_or_elsewhere :
    (words page word p w : ℕ) → word < words → w < words
    → (((page == p && word == w) ≡ true) × (page ≡ p) × (word ≡ w))
    ⊎ (((page == p && word == w) ≡ false) × (place words p w ≢ place words page word))
same_or_elsewhere words page word p w lw lw2 =
    ⊎_elim
    (λ e. let t = and_parts (page == p) (word == w) e in inl (e, eqb-true page p t.0, eqb-true word w t.1))
    (λ e. inr (e, (λ same. apart words page word p w lw lw2 e same)))
    (cases_Bool (page == p && word == w))
  where
    apart :
        (words page word p w : ℕ) → word < words → w < words → (page == p && word == w) ≡ false
        → place words p w ≡ place words page word → ⊥
    apart words page word p w lw lw2 e same =
        let t = same_from_place p w page word words lw2 lw same in grind (arith, nat_tests)

-- a list of all words with one of them written
pub written_word :
    (vs : List ℕ) (pages words page word p w v : ℕ) → length vs ≡ pages * words → page < pages → word < words → w < words
    → get_or (set vs (place words page word) v) (place words p w) 0
    ≡ (if page == p && word == w then v else get_or vs (place words p w) 0)
written_word vs pages words page word p w v size lp lw lw2 =
    let within : place words page word < length vs = place-within pages words page word (length vs) size lp lw
    in ⊎_elim
    (λ e. let same : place words p w ≡ place words page word = rw (e.1, e.2) refl
    in rw e.0 (get_or-set_at vs (place words page word) (place words p w) v 0 same within))
    (λ e. rw e.0 (get_or-set_other vs (place words page word) (place words p w) v 0 e.1))
    (same_or_elsewhere words page word p w lw lw2)

-- the written word has one write more
counted_word :
    (f : ℕ → ℕ → ℕ) (page word p w version n : ℕ) → version ≡ f page word + 1 → n ≡ f p w
    → (if page == p && word == w then version else n) ≡ (if page == p && word == w then f p w + 1 else f p w)
counted_word f page word p w version n e k =
    ⊎_elim
    (λ t. let both = and_parts (page == p) (word == w) t
    in let same_page = eqb-true page p both.0
    in let same_word = eqb-true word w both.1
    in rw t (rw (same_page, same_word) at e))
    (λ t. rw t k)
    (cases_Bool (page == p && word == w))

write-guard : (k b c : Bool) → k ≡ true → (k && b && c) ≡ (b && c)
write-guard true b c h = refl
write-guard false b c h = absurd cc

-- a derived test tells a load from the other kinds
pub write-unless_load : (k : Kind) → true ≡ not (sameb the_type k kind.Load) → is_write k ≡ true
write-unless_load kind.Load h = absurd cc
write-unless_load kind.Store h = refl
write-unless_load kind.Add h = refl

pub one_write : (k : Kind) → is_write k ≡ true → writes_made k ≡ 1
one_write k h = rw h refl

-- after an access that writes, its word has the new value and one write more
written-at :
    (m : Machine) (items : List Item) (a : Access) (flat : FlatSeen)
    → IsFlatOf m items flat → length flat.values ≡ m.pages * m.words → length flat.versions ≡ m.pages * m.words
    → a.page < m.pages → a.word < m.words → is_write a.kind ≡ true
    → a.version ≡ get_or flat.versions (place m.words a.page a.word) 0 + 1
    → IsFlatOf m (items ++ item.Access a ∷ []) (record {
      pages = m.pages;
      words = m.words;
      values = set flat.values (place m.words a.page a.word) a.new;
      versions = set flat.versions (place m.words a.page a.word) a.version;
    })
written-at m items a flat h values versions lp lw write counted = record {
  pages = refl;
  words = refl;
  value = λ page word p w.
      rw (flat_value-push m items (item.Access a) page word, write-guard (is_write a.kind) (a.page == page) (a.word == word) write)
      (written_word flat.values m.pages m.words a.page a.word page word a.new values lp lw w
      ∙ ap (λ v. if a.page == page && a.word == word then a.new else v) (h.value page word p w));
  version = λ page word p w.
      rw (flat_writes-push items (item.Access a) page word, write-guard (is_write a.kind) (a.page == page) (a.word == word) write)
      (written_word flat.versions m.pages m.words a.page a.word page word a.version versions lp lw w
      ∙ counted_word (flat_writes items) a.page a.word page word a.version _
      (counted ∙ ap (λ n. n + 1) (h.version a.page a.word lp lw)) (h.version page word p w));
}

-- the same, by the numbers of pages and words that flat memory keeps
pub flat-written :
    (m : Machine) (items : List Item) (a : Access) (flat : FlatSeen)
    → IsFlatOf m items flat → FitsPages flat.pages flat.words flat.values flat.versions
    → a.page < flat.pages → a.word < flat.words → is_write a.kind ≡ true
    → a.version ≡ get_or flat.versions (place flat.words a.page a.word) 0 + 1
    → IsFlatOf m (items ++ item.Access a ∷ []) (record {
      pages = flat.pages;
      words = flat.words;
      values = set flat.values (place flat.words a.page a.word) a.new;
      versions = set flat.versions (place flat.words a.page a.word) a.version;
    })
flat-written m items a flat h fits lp lw write counted =
    rw (h.pages, h.words)
    (written-at m items a flat h (rw (h.pages, h.words) at fits.values) (rw (h.pages, h.words) at fits.versions)
    (rw h.pages at lp) (rw h.words at lw) write (rw h.words at counted))
