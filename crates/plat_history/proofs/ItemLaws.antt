-- lines of items: what is read is spelled so, and what is spelled so is read
use Rattle.std.proofs.Common.{◌≡◌, ℕ, ◌^◌, ◌<◌, ◌≤◌, true, List, [], ◌∷◌, length, Result, Ok, codes, refl, ap, ◌∙◌, arith}
use Rattle.std.specs.Fmt.{decimal}
use Rattle.plat_base.specs.Machine.{Machine}
use Rattle.plat_grammar.specs.Forms.{◌>>=◌, Row, one, any_number, number, below, nothing}
use Rattle.plat_base.specs.declared.faults.Refused.{Refused}
use Rattle.plat_base.specs.declared.faults.Why.{Why}
use Rattle.plat_base.specs.declared.faults.Why.TheVariants.{Expected}
use Rattle.plat_base.specs.declared.items.Access.{Access}
use Rattle.plat_base.specs.declared.items.Change.{Change}
use Rattle.plat_base.specs.declared.items.Applied.{Applied}
use Rattle.plat_base.specs.declared.items.Switch.{Switch}
use Rattle.plat_base.specs.declared.items.Item.{Item}
use Rattle.plat_base.specs.declared.items.Item.TheVariants as item
use Rattle.plat_text.proofs.Results.{taking, then_ok, ok_is}
use Rattle.plat_text.proofs.WordLaws.{IsWordForm, any-law, number-law, below-law}
use Rattle.plat_text.proofs.FormLaws.{row_texts, IsTail, one-law, nothing-law, choice-takes, choice-again}
use Rattle.plat_grammar.specs.HistoryCanon.{kind_word, cause_word, action_word, removed_word, message_word, moment_word, dir_word}
use Rattle.plat_grammar.specs.HistoryCanon.{grant_word, access_words, change_words, applied_words, switch_words, item_words}
use Rattle.plat_grammar.specs.HistoryForms.{named, kinds, causes, actions, removals, messages, moments, granted_of, dir_of, access_of}
use Rattle.plat_grammar.specs.HistoryForms.{change_of_words, access_line, change_line, applied_line, switch_line, item_kinds, item_line}
use Rattle.plat_grammar.specs.HistoryGrammar.{is_told_dir, is_told_grant, IsToldAccess, IsToldChange, IsToldApplied, IsToldSwitch, IsTold}
use Rattle.plat_history.proofs.NameLaws.{kinds-law, causes-law, actions-law, removals-law, messages-law, moments-law}
use Rattle.plat_history.proofs.PartLaws.{frame_from, frame_parts, granted-law}
use Rattle.plat_history.proofs.DirLaws.{dir-law}

-- ---- reading on after a word that fits, and at the end of a line

pub word_on :
    {A C : Type 0} {of : List ℕ → Result A Why} {spell : A → List ℕ} {fits : A → Type 0} (law : IsWordForm of spell fits) (row : Row)
    (x : A) (more : List (List ℕ))
    → fits x → row_texts row ≡ spell x ∷ more → (f : A × Row → Result C Refused) (z : Result C Refused) →
    ((after : Row) → row_texts after ≡ more → f (x, after) ≡ z) → (one of row >>= f) ≡ z
word_on law row x more h e f z go =
    let t = (one-law law).again row x more h e in
    then_ok (one _ row) f (x, t.1) z (t.2 ∙ ap (λ k. Ok (k, t.1)) t.3) (go t.1 t.4)

pub end_on : {C : Type 0} (row : Row) → row_texts row ≡ [] → (f : Unit {0} → Result C Refused) (z : Result C Refused) → f (tt {0}) ≡ z →
    (nothing row >>= f) ≡ z
end_on row e f z go = let t = nothing-law.again row (tt {0}) tt e in then_ok (nothing row) f (tt {0}) z (t.1 ∙ ap Ok t.2) go

-- numbers of a machine that fit 32 bits
pub record IsSmall (m : Machine) : Type 0 where
  pub nodes : m.nodes < 2 ^ 32
  pub frames : m.frames ≤ 2 ^ 32
  pub words : m.words ≤ 2 ^ 32
  pub pages : m.pages ≤ 2 ^ 32
  pub entries : length m.entries ≤ 2 ^ 32

module _ (m : Machine) (small : IsSmall m) where
  most_nodes : m.nodes < 2 ^ 32
  most_nodes = small.nodes

  nodes : m.nodes ≤ 2 ^ 32
  nodes = omega (arith, small.nodes)

  frames : m.frames ≤ 2 ^ 32
  frames = small.frames

  words : m.words ≤ 2 ^ 32
  words = small.words

  pages : m.pages ≤ 2 ^ 32
  pages = small.pages

  entries : length m.entries ≤ 2 ^ 32
  entries = small.entries

  dir_form : IsWordForm (dir_of m.nodes m.frames) dir_word (λ d. is_told_dir m d ≡ true)
  dir_form = dir-law m entries nodes frames

  granted_form : IsWordForm (granted_of (length m.entries) m.nodes m.frames) grant_word (λ g. is_told_grant m g ≡ true)
  granted_form = granted-law m entries nodes frames

  -- ---- accesses

  access-takes : (row : Row) (i : Item) → access_line m row ≡ Ok i → (codes "access" ∷ row_texts row ≡ item_words i) × IsTold m i
  unfolding access_line access_words
  access-takes row i e =
      taking (below m.nodes row) _ _ e (λ actor actor-is e1.
      taking (one (named kinds) actor.1) _ _ e1 (λ kind kind-is e2.
      taking (number 0 7 kind.1) _ _ e2 (λ space space-is e3.
      taking (any_number space.1) _ _ e3 (λ addr addr-is e4.
      taking (below m.pages addr.1) _ _ e4 (λ page page-is e5.
      taking (below m.words page.1) _ _ e5 (λ word word-is e6.
      taking (any_number word.1) _ _ e6 (λ old old-is e7.
      taking (any_number old.1) _ _ e7 (λ new new-is e8.
      taking (any_number new.1) _ _ e8 (λ version version-is e9.
      taking (below m.nodes version.1) _ _ e9 (λ mo mo-is e10.
      taking (below m.frames mo.1) _ _ e10 (λ number number-is e11.
      taking (any_number number.1) _ _ e11 (λ grant grant-is e12.
      taking (nothing grant.1) _ _ e12 (λ over over-is e13.
      let t_actor = (one-law (below-law m.nodes nodes)).takes (row) actor.0 actor.1 actor-is in
      let t_kind = (one-law kinds-law).takes (actor.1) kind.0 kind.1 kind-is in
      let t_space = (one-law (number-law 0 7 (omega arith))).takes (kind.1) space.0 space.1 space-is in
      let t_addr = (one-law any-law).takes (space.1) addr.0 addr.1 addr-is in
      let t_page = (one-law (below-law m.pages pages)).takes (addr.1) page.0 page.1 page-is in
      let t_word = (one-law (below-law m.words words)).takes (page.1) word.0 word.1 word-is in
      let t_old = (one-law any-law).takes (word.1) old.0 old.1 old-is in
      let t_new = (one-law any-law).takes (old.1) new.0 new.1 new-is in
      let t_version = (one-law any-law).takes (new.1) version.0 version.1 version-is in
      let t_mo = (one-law (below-law m.nodes nodes)).takes (version.1) mo.0 mo.1 mo-is in
      let t_number = (one-law (below-law m.frames frames)).takes (mo.1) number.0 number.1 number-is in
      let t_grant = (one-law any-law).takes (number.1) grant.0 grant.1 grant-is in
      let t_over = nothing-law.takes (grant.1) over over-is in
      let value : access_of actor.0 kind.0 space.0 addr.0 page.0 word.0 old.0 new.0 version.0 mo.0 number.0 grant.0 ≡ i = ok_is _ i e13 in
      let words : row_texts row ≡ decimal actor.0 ∷ kind_word kind.0 ∷ decimal space.0 ∷ decimal addr.0 ∷ decimal page.0 ∷ decimal word.0
      ∷ decimal old.0 ∷ decimal new.0 ∷ decimal version.0 ∷ decimal mo.0 ∷ decimal number.0 ∷ decimal grant.0 ∷ [] =
      t_actor.0 ∙ ap (λ (k : List (List ℕ)). decimal actor.0 ∷ k)
      (t_kind.0 ∙ ap (λ (k : List (List ℕ)). kind_word kind.0 ∷ k)
      (t_space.0 ∙ ap (λ (k : List (List ℕ)). decimal space.0 ∷ k)
      (t_addr.0 ∙ ap (λ (k : List (List ℕ)). decimal addr.0 ∷ k)
      (t_page.0 ∙ ap (λ (k : List (List ℕ)). decimal page.0 ∷ k)
      (t_word.0 ∙ ap (λ (k : List (List ℕ)). decimal word.0 ∷ k)
      (t_old.0 ∙ ap (λ (k : List (List ℕ)). decimal old.0 ∷ k)
      (t_new.0 ∙ ap (λ (k : List (List ℕ)). decimal new.0 ∷ k)
      (t_version.0 ∙ ap (λ (k : List (List ℕ)). decimal version.0 ∷ k)
      (t_mo.0 ∙ ap (λ (k : List (List ℕ)). decimal mo.0 ∷ k)
      (t_number.0 ∙ ap (λ (k : List (List ℕ)). decimal number.0 ∷ k)
      (t_grant.0 ∙ ap (λ (k : List (List ℕ)). decimal grant.0 ∷ k) (t_over.0)))))))))))) in
      rw (← value) (
        ap (λ (k : List (List ℕ)). codes "access" ∷ k) words,
        record {
          actor = t_actor.1;
          space = t_space.1.1;
          addr = t_addr.1;
          page = t_page.1;
          word = t_word.1;
          old = t_old.1;
          new = t_new.1;
          version = t_version.1;
          frame = frame_from m entries nodes frames (record { «module» = mo.0; number = number.0 }) t_mo.1
              t_number.1;
          grant = t_grant.1;
        },
      ))))))))))))))

  access-again : (row : Row) (a : Access) → IsToldAccess m a → row_texts row ≡ decimal a.actor ∷ kind_word a.kind ∷ decimal a.space
      ∷ decimal a.addr ∷ decimal a.page ∷ decimal a.word ∷ decimal a.old ∷ decimal a.new ∷ decimal a.version ∷ decimal a.frame.module
      ∷ decimal a.frame.number ∷ decimal a.grant ∷ [] → access_line m row ≡ Ok (item.Access a)
  unfolding access_line
  access-again row a h e =
      word_on (below-law m.nodes nodes) row a.actor _ h.actor e _ _ (λ r1 e1.
      word_on kinds-law r1 a.kind _ tt e1 _ _ (λ r2 e2.
      word_on (number-law 0 7 (omega arith)) r2 a.space _ (omega arith, h.space) e2 _ _ (λ r3 e3.
      word_on any-law r3 a.addr _ h.addr e3 _ _ (λ r4 e4.
      word_on (below-law m.pages pages) r4 a.page _ h.page e4 _ _ (λ r5 e5.
      word_on (below-law m.words words) r5 a.word _ h.word e5 _ _ (λ r6 e6.
      word_on any-law r6 a.old _ h.old e6 _ _ (λ r7 e7.
      word_on any-law r7 a.new _ h.new e7 _ _ (λ r8 e8.
      word_on any-law r8 a.version _ h.version e8 _ _ (λ r9 e9.
      word_on (below-law m.nodes nodes) r9 a.frame.module _ (frame_parts m entries nodes frames a.frame h.frame).0 e9 _ _ (λ r10 e10.
      word_on (below-law m.frames frames) r10 a.frame.number _ (frame_parts m entries nodes frames a.frame h.frame).1 e10 _ _ (λ r11 e11.
      word_on any-law r11 a.grant _ h.grant e11 _ _ (λ r12 e12.
      end_on r12 e12 _ _ refl))))))))))))

  -- ---- change

  change-takes : (row : Row) (i : Item) → change_line m row ≡ Ok i → (codes "change" ∷ row_texts row ≡ item_words i) × IsTold m i
  unfolding change_line change_words
  change-takes row i e =
      taking (number 0 m.nodes row) _ _ e (λ actor actor-is e1.
      taking (below m.pages actor.1) _ _ e1 (λ page page-is e2.
      taking (any_number page.1) _ _ e2 (λ seq seq-is e3.
      taking (any_number seq.1) _ _ e3 (λ time time-is e4.
      taking (one (named causes) time.1) _ _ e4 (λ cause cause-is e5.
      taking (one (named actions) cause.1) _ _ e5 (λ action action-is e6.
      taking (one (named removals) action.1) _ _ e6 (λ removed removed-is e7.
      taking (one (dir_of m.nodes m.frames) removed.1) _ _ e7 (λ before before-is e8.
      taking (one (dir_of m.nodes m.frames) before.1) _ _ e8 (λ after after-is e9.
      taking (one (granted_of (length m.entries) m.nodes m.frames) after.1) _ _ e9 (λ granted granted-is e10.
      taking (nothing granted.1) _ _ e10 (λ over over-is e11.
      let t_actor = (one-law (number-law 0 m.nodes most_nodes)).takes (row) actor.0 actor.1 actor-is in
      let t_page = (one-law (below-law m.pages pages)).takes (actor.1) page.0 page.1 page-is in
      let t_seq = (one-law any-law).takes (page.1) seq.0 seq.1 seq-is in
      let t_time = (one-law any-law).takes (seq.1) time.0 time.1 time-is in
      let t_cause = (one-law causes-law).takes (time.1) cause.0 cause.1 cause-is in
      let t_action = (one-law actions-law).takes (cause.1) action.0 action.1 action-is in
      let t_removed = (one-law removals-law).takes (action.1) removed.0 removed.1 removed-is in
      let t_before = (one-law dir_form).takes (removed.1) before.0 before.1 before-is in
      let t_after = (one-law dir_form).takes (before.1) after.0 after.1 after-is in
      let t_granted = (one-law granted_form).takes (after.1) granted.0 granted.1 granted-is in
      let t_over = nothing-law.takes (granted.1) over over-is in
      let value : change_of_words actor.0 page.0 seq.0 time.0 cause.0 action.0 removed.0 before.0 after.0 granted.0 ≡ i = ok_is _ i e11 in
      let words : row_texts row ≡ decimal actor.0 ∷ decimal page.0 ∷ decimal seq.0 ∷ decimal time.0 ∷ cause_word cause.0
      ∷ action_word action.0 ∷ removed_word removed.0 ∷ dir_word before.0 ∷ dir_word after.0 ∷ grant_word granted.0 ∷ [] =
      t_actor.0 ∙ ap (λ (k : List (List ℕ)). decimal actor.0 ∷ k)
      (t_page.0 ∙ ap (λ (k : List (List ℕ)). decimal page.0 ∷ k)
      (t_seq.0 ∙ ap (λ (k : List (List ℕ)). decimal seq.0 ∷ k)
      (t_time.0 ∙ ap (λ (k : List (List ℕ)). decimal time.0 ∷ k)
      (t_cause.0 ∙ ap (λ (k : List (List ℕ)). cause_word cause.0 ∷ k)
      (t_action.0 ∙ ap (λ (k : List (List ℕ)). action_word action.0 ∷ k)
      (t_removed.0 ∙ ap (λ (k : List (List ℕ)). removed_word removed.0 ∷ k)
      (t_before.0 ∙ ap (λ (k : List (List ℕ)). dir_word before.0 ∷ k)
      (t_after.0 ∙ ap (λ (k : List (List ℕ)). dir_word after.0 ∷ k)
      (t_granted.0 ∙ ap (λ (k : List (List ℕ)). grant_word granted.0 ∷ k) (t_over.0)))))))))) in
      rw (← value) (
        ap (λ (k : List (List ℕ)). codes "change" ∷ k) words,
        record {
          actor = t_actor.1.1;
          page = t_page.1;
          seq = t_seq.1;
          time = t_time.1;
          before = t_before.1;
          after = t_after.1;
          granted = t_granted.1;
        },
      ))))))))))))

  change-again : (row : Row) (c : Change) → IsToldChange m c →
      row_texts row ≡ decimal c.actor ∷ decimal c.page ∷ decimal c.seq ∷ decimal c.time ∷ cause_word c.cause ∷ action_word c.action
      ∷ removed_word c.removed ∷ dir_word c.before ∷ dir_word c.after ∷ grant_word c.granted ∷ [] → change_line m row ≡ Ok (item.Change c)
  unfolding change_line
  change-again row c h e =
      word_on (number-law 0 m.nodes most_nodes) row c.actor _ (omega arith, h.actor) e _ _ (λ r1 e1.
      word_on (below-law m.pages pages) r1 c.page _ h.page e1 _ _ (λ r2 e2.
      word_on any-law r2 c.seq _ h.seq e2 _ _ (λ r3 e3.
      word_on any-law r3 c.time _ h.time e3 _ _ (λ r4 e4.
      word_on causes-law r4 c.cause _ tt e4 _ _ (λ r5 e5.
      word_on actions-law r5 c.action _ tt e5 _ _ (λ r6 e6.
      word_on removals-law r6 c.removed _ tt e6 _ _ (λ r7 e7.
      word_on dir_form r7 c.before _ h.before e7 _ _ (λ r8 e8.
      word_on dir_form r8 c.after _ h.after e8 _ _ (λ r9 e9.
      word_on granted_form r9 c.granted _ h.granted e9 _ _ (λ r10 e10.
      end_on r10 e10 _ _ refl))))))))))

  -- ---- applied

  applied-takes : (row : Row) (i : Item) → applied_line m row ≡ Ok i → (codes "applied" ∷ row_texts row ≡ item_words i) × IsTold m i
  unfolding applied_line applied_words
  applied-takes row i e =
      taking (below m.nodes row) _ _ e (λ actor actor-is e1.
      taking (below (length m.entries) actor.1) _ _ e1 (λ entry entry-is e2.
      taking (one (named messages) entry.1) _ _ e2 (λ message message-is e3.
      taking (one (named moments) message.1) _ _ e3 (λ moment moment-is e4.
      taking (nothing moment.1) _ _ e4 (λ over over-is e5.
      let t_actor = (one-law (below-law m.nodes nodes)).takes (row) actor.0 actor.1 actor-is in
      let t_entry = (one-law (below-law (length m.entries) entries)).takes (actor.1) entry.0 entry.1 entry-is in
      let t_message = (one-law messages-law).takes (entry.1) message.0 message.1 message-is in
      let t_moment = (one-law moments-law).takes (message.1) moment.0 moment.1 moment-is in
      let t_over = nothing-law.takes (moment.1) over over-is in
      let value : item.Applied (record { actor = actor.0; entry = entry.0; message = message.0; moment = moment.0 }) ≡ i = ok_is _ i e5 in
      let words : row_texts row ≡ decimal actor.0 ∷ decimal entry.0 ∷ message_word message.0 ∷ moment_word moment.0 ∷ [] =
      t_actor.0 ∙ ap (λ (k : List (List ℕ)). decimal actor.0 ∷ k)
      (t_entry.0 ∙ ap (λ (k : List (List ℕ)). decimal entry.0 ∷ k)
      (t_message.0 ∙ ap (λ (k : List (List ℕ)). message_word message.0 ∷ k)
      (t_moment.0 ∙ ap (λ (k : List (List ℕ)). moment_word moment.0 ∷ k) (t_over.0)))) in
      rw (← value) (ap (λ (k : List (List ℕ)). codes "applied" ∷ k) words, record { actor = t_actor.1; entry = t_entry.1 }))))))

  applied-again : (row : Row) (a : Applied) → IsToldApplied m a → row_texts row ≡ decimal a.actor ∷ decimal a.entry ∷ message_word a.message
      ∷ moment_word a.moment ∷ [] → applied_line m row ≡ Ok (item.Applied a)
  unfolding applied_line
  applied-again row a h e =
      word_on (below-law m.nodes nodes) row a.actor _ h.actor e _ _ (λ r1 e1.
      word_on (below-law (length m.entries) entries) r1 a.entry _ h.entry e1 _ _ (λ r2 e2.
      word_on messages-law r2 a.message _ tt e2 _ _ (λ r3 e3.
      word_on moments-law r3 a.moment _ tt e3 _ _ (λ r4 e4.
      end_on r4 e4 _ _ refl))))

  -- ---- switch

  switch-takes : (row : Row) (i : Item) → switch_line m row ≡ Ok i → (codes "switch" ∷ row_texts row ≡ item_words i) × IsTold m i
  unfolding switch_line switch_words
  switch-takes row i e =
      taking (below m.nodes row) _ _ e (λ actor actor-is e1.
      taking (number 0 7 actor.1) _ _ e1 (λ space space-is e2.
      taking (nothing space.1) _ _ e2 (λ over over-is e3.
      let t_actor = (one-law (below-law m.nodes nodes)).takes (row) actor.0 actor.1 actor-is in
      let t_space = (one-law (number-law 0 7 (omega arith))).takes (actor.1) space.0 space.1 space-is in
      let t_over = nothing-law.takes (space.1) over over-is in
      let value : item.Switch (record { actor = actor.0; space = space.0 }) ≡ i = ok_is _ i e3 in
      let words : row_texts row ≡ decimal actor.0 ∷ decimal space.0 ∷ [] =
      t_actor.0 ∙ ap (λ (k : List (List ℕ)). decimal actor.0 ∷ k)
      (t_space.0 ∙ ap (λ (k : List (List ℕ)). decimal space.0 ∷ k) (t_over.0)) in
      rw (← value) (ap (λ (k : List (List ℕ)). codes "switch" ∷ k) words, record { actor = t_actor.1; space = t_space.1.1 }))))

  switch-again : (row : Row) (s : Switch) → IsToldSwitch m s → row_texts row ≡ decimal s.actor ∷ decimal s.space ∷ [] →
      switch_line m row ≡ Ok (item.Switch s)
  unfolding switch_line
  switch-again row s h e =
      word_on (below-law m.nodes nodes) row s.actor _ h.actor e _ _ (λ r1 e1.
      word_on (number-law 0 7 (omega arith)) r1 s.space _ (omega arith, h.space) e1 _ _ (λ r2 e2.
      end_on r2 e2 _ _ refl))

  item-takes : (row : Row) (i : Item) → item_line m row ≡ Ok i → (row_texts row ≡ item_words i) × IsTold m i
  unfolding item_line
  item-takes row i e = choice-takes (λ i. i) item_words (IsTold m) (item_kinds m) Expected row i (
    record { takes = access-takes },
    (record { takes = change-takes }, (record { takes = applied-takes }, (record { takes = switch-takes }, tt))),
  ) e

  item-again : (row : Row) (i : Item) → IsTold m i → row_texts row ≡ item_words i → (j : Item) × (item_line m row ≡ Ok j) × (j ≡ i)
  unfolding item_line access_words change_words applied_words switch_words
  item-again row (item.Access a) h e =
      choice-again (λ i. i) item_words (IsTold m) (item_kinds m) Expected row (item.Access a) (codes "access") _ e
      (λ fault after t. (item.Access a, access-again after a h t, refl))
  item-again row (item.Change c) h e =
      choice-again (λ i. i) item_words (IsTold m) (item_kinds m) Expected row (item.Change c) (codes "change") _ e
      (λ fault after t. (item.Change c, change-again after c h t, refl))
  item-again row (item.Applied a) h e = choice-again (λ i. i) item_words (IsTold m) (item_kinds m) Expected row (item.Applied a)
      (codes "applied") _ e
      (λ fault after t. (item.Applied a, applied-again after a h t, refl))
  item-again row (item.Switch s) h e =
      choice-again (λ i. i) item_words (IsTold m) (item_kinds m) Expected row (item.Switch s) (codes "switch") _ e
      (λ fault after t. (item.Switch s, switch-again after s h t, refl))

  pub item-law : IsTail (item_line m) (λ i. i) item_words (IsTold m)
  item-law = record { takes = item-takes; again = item-again }
