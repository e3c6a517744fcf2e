-- labels and the set of their names
use Rattle.std.proofs.Common.{◌≡◌, ℕ, ◌+◌, Bool, false, cond, ltb, not, List, [], ◌∷◌, ◌++◌, length, map}
use Rattle.std.proofs.Common.{Some, None, bytes_eq, refl, ap, sym, ◌∙◌, ◌||◌}
use Rattle.std.proofs.lemmas.List.{length-map, map-append, length_push}
use Rattle.indexmap.specs.IndexSet.{insert_key}
use Rattle.std.specs.Borrow.{Bor}
use Rattle.std.specs.List.{list_any, position, position_or_len, prefix_len}
use Rattle.plat_base.specs.declared.guests.Label.{Label}

any-map : {A B : Type 0} (p : B → Bool) (f : A → B) (xs : List A) → list_any p (map f xs) ≡ list_any (λ x. p (f x)) xs
any-map p f [] = refl
any-map p f (x ∷ xs) = ap (λ v. p (f x) || v) (any-map p f xs)

prefix-map : {A B : Type 0} (p : B → Bool) (f : A → B) (xs : List A) → prefix_len p (map f xs) ≡ prefix_len (λ x. p (f x)) xs
prefix-map p f [] = refl
prefix-map p f (x ∷ xs) = ap (λ v. cond (p (f x)) (1 + v) 0) (prefix-map p f xs)

position-map : {A B : Type 0} (p : B → Bool) (f : A → B) (xs : List A) → position p (map f xs) ≡ position (λ x. p (f x)) xs
position-map p f xs =
    let n : position_or_len p (map f xs) ≡ position_or_len (λ x. p (f x)) xs = prefix-map (λ b. not (p b)) f xs in
    ap (λ k. cond (ltb k (length (map f xs))) (Some k) None) n
    ∙ ap (λ l. cond (ltb (position_or_len (λ x. p (f x)) xs) l) (Some (position_or_len (λ x. p (f x)) xs)) None) (length-map xs f)

-- the names of keys, and of labels
abbrev pub key_names : List (Bor (List ℕ)) → List (List ℕ)
key_names keys = map (λ k. k.now) keys

abbrev pub label_names : List Label → List (List ℕ)
label_names labels = map (λ l. l.name) labels

pub known_by_keys : (name : List ℕ) (keys : List (Bor (List ℕ))) (labels : List Label) → key_names keys ≡ label_names labels
    → list_any (λ k. bytes_eq name k.now) keys ≡ list_any (λ l. bytes_eq name l.name) labels
known_by_keys name keys labels e =
    sym (any-map (bytes_eq name) (λ k. k.now) keys) ∙ ap (list_any (bytes_eq name)) e ∙ any-map (bytes_eq name) (λ l. l.name) labels

pub place_by_keys : (name : List ℕ) (keys : List (Bor (List ℕ))) (labels : List Label) → key_names keys ≡ label_names labels
    → position (λ k. bytes_eq name k.now) keys ≡ position (λ l. bytes_eq name l.name) labels
place_by_keys name keys labels e =
    sym (position-map (bytes_eq name) (λ k. k.now) keys) ∙ ap (position (bytes_eq name)) e
    ∙ position-map (bytes_eq name) (λ l. l.name) labels

-- a new name is kept at the end of both
pub named_push : (keys after : List (Bor (List ℕ))) (k : Bor (List ℕ)) (labels same labels' : List Label) (l : Label)
    → key_names keys ≡ label_names labels → list_any (λ x. bytes_eq k.now x.name) labels ≡ false →
    after ≡ insert_key (λ a b. bytes_eq a.now b.now) keys k
    → l.name ≡ k.now → same ≡ labels → labels' ≡ same ++ l ∷ [] → key_names after ≡ label_names labels'
named_push keys after k labels same labels' l named unknown inserted name_is same_is pushed =
    let new : list_any (λ x. bytes_eq k.now x.now) keys ≡ false = known_by_keys k.now keys labels named ∙ unknown in
    rw (inserted, new, pushed, same_is, map-append, map-append, named, name_is) refl

pub length_push_one : {A : Type 0} (xs same xs' : List A) (x : A) → same ≡ xs → xs' ≡ same ++ x ∷ [] → length xs' ≡ length xs + 1
length_push_one xs same xs' x e f = rw (f, e) (length_push xs x)
