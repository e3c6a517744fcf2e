-- the unlock with a change: each frame of the machine is used as it was, and the page shows what the history says
use Rattle.std.specs.Prelude.{◌≡◌, ◌⊎◌, ℕ, ◌+◌, ◌<◌, ◌&&◌, ◌||◌, not, if◌then◌else◌, Bool, true, false, List, [], ◌∷◌, ◌++◌, filter, cond}
use Rattle.std.specs.Prelude.{Option, Some, None, is_some, IsTrue}
use Rattle.std.proofs.Common.{refl, ap, sym, ◌∙◌, inl, inr, subst}
use Rattle.std.specs.List.{list_any}
use Rattle.std.specs.Option.{option_map_or}
use Rattle.std.proofs.lemmas.Bool.{and_parts, true≢false, not-true, eq-eqb}
use Rattle.plat_base.specs.Verdicts.{Answer}
use Rattle.plat_base.specs.Machine.{Machine}
use Rattle.plat_base.specs.Copies.{same_frame, copy_on}
use Rattle.plat_base.specs.Decide.{is_dir, is_frame}
use Rattle.plat_base.specs.Rules.{names_got}
use Rattle.plat_base.specs.Directories.{dir_of}
use Rattle.plat_base.proofs.CopiesLemmas.{same_frame-itself}
use Rattle.plat_base.specs.declared.frames.Dir.{Dir}
use Rattle.plat_base.specs.declared.frames.Frame.{Frame}
use Rattle.plat_base.specs.declared.items.Change.{Change}
use Rattle.plat_base.specs.declared.items.Item.TheVariants as item
use Rattle.plat_base.specs.declared.policies.Decision.{Decision}
use Rattle.plat_base.specs.declared.words.WordName.TheVariants as word
use Rattle.plat_laws.specs.Guests.{IsWithinLimits}
use Rattle.plat_laws.proofs.ItemLaws.{flat_value-change, flat_writes-change}
use Rattle.plat_laws.proofs.TableLaws.{dir_parts, list_all_copy_on, DecideFacts, ThawFacts}
use Rattle.plat_events.specs.Words.{dir_word, data_word}
use Rattle.plat_events.specs.Sessions.{Course, Session, Unlocking, change_made, decision_of, going}
use Rattle.plat_events.specs.Privates.{InSession, Private, actor_count}
use Rattle.plat_events.specs.Events.{with_item}
use Rattle.plat_events.specs.Standings.{hand_of}
use Rattle.plat_events.specs.Kept.{Running, running_of, session_on, session_of, gave_back, is_copy_of, is_kept, private_of}
use Rattle.plat_events.specs.Runs.{Fine, event}
use Rattle.plat_events.specs.Shown.{bit_of, is_hand, flat_word, frame_word, uses_of, stamp_by, Shows}
use Rattle.plat_local_laws.specs.Phases.{SessionOk}
use Rattle.plat_local_laws.proofs.CourseLaws.{IsActor, fault_decides, thaw_decides}
use Rattle.plat_local_laws.proofs.StandingLaws.{actor-is}
use Rattle.plat_fine_laws.proofs.TableFacts.{is_copy_of-on, copy_on-is}
use Rattle.plat_frame_laws.specs.Phased.{running}
use Rattle.plat_frame_laws.proofs.SessionHereLaws.{session}
use Rattle.plat_frame_laws.proofs.FrameUseLaws.{page_uses}
use Rattle.plat_session_laws.specs.OnePage.{ShowsPage}
use Rattle.plat_session_laws.proofs.PageLaws.{runs, frame-word, once-kept}
use Rattle.plat_session_laws.proofs.ChangeFieldLaws.{own-dir}
use Rattle.plat_session_laws.proofs.UnlockFieldLaws.{unlock-after, unlock-changes, unlock-copies, unlock-decides, unlock-dir, unlock-inside}
use Rattle.plat_session_laws.proofs.UnlockFieldLaws.{unlock-last, unlock-lock, unlock-named, unlock-ok, unlock-on, unlock-stamp}
use Rattle.plat_session_laws.proofs.UnlockLeavesLaws.{unlock-goes, unlocks}
use Rattle.plat_session_laws.proofs.UnlockOthersLaws.{unlock-leaves}
use Rattle.plat_laws.proofs.SameLaws.{same_frame-true}

-- a copy is one of the directory after, or goes
going-either :
    (f : Frame) (test : Frame → Bool) (fs : List Frame) → list_any (same_frame f) fs ≡ true → test f ≡ true →
    list_any (same_frame f) (filter test fs) ≡ true
going-either f test [] h k = absurd cc
going-either f test (g ∷ gs) h k = first (same_frame f g) refl h (λ any. going-either f test gs any k)
  where
    keep : (b : Bool) → list_any (same_frame f) (filter test gs) ≡ true → list_any (same_frame f) (cond b (g ∷ filter test gs) (filter
        test gs)) ≡ true
    keep true there = rest (same_frame f g)
      where
        rest : (c : Bool) → (c || list_any (same_frame f) (filter test gs)) ≡ true
        rest true = refl
        rest false = there
    keep false there = there

    first : (b : Bool) → same_frame f g ≡ b → (b || list_any (same_frame f) gs) ≡ true →
        (list_any (same_frame f) gs ≡ true → list_any (same_frame f) (filter test gs) ≡ true) →
        list_any (same_frame f) (cond (test g) (g ∷ filter test gs) (filter test gs)) ≡ true
    first true same any more =
        let passes : test g ≡ true = ap test (sym (same_frame-true f g same)) ∙ k in
        ap (λ b. list_any (same_frame f) (cond b (g ∷ filter test gs) (filter test gs))) passes
        ∙ ap (λ b. b || list_any (same_frame f) (filter test gs)) same
    first false same any more = keep (test g) (more any)

pub going-is :
    (f : Frame) (test : Frame → Bool) (fs : List Frame) → list_any (same_frame f) (filter test fs) ≡ true → test f ≡ true
going-is f test [] h = absurd cc
going-is f test (g ∷ gs) h = by (test g) refl h (λ any. going-is f test gs any)
  where
    first : (b : Bool) → same_frame f g ≡ b → test g ≡ true → (b || list_any (same_frame f) (filter test gs)) ≡ true →
        (list_any (same_frame f) (filter test gs) ≡ true → test f ≡ true) → test f ≡ true
    first true same passes any more = ap test (same_frame-true f g same) ∙ passes
    first false same passes any more = more any

    by : (b : Bool) → test g ≡ b → list_any (same_frame f) (cond b (g ∷ filter test gs) (filter test gs)) ≡ true →
        (list_any (same_frame f) (filter test gs) ≡ true → test f ≡ true) → test f ≡ true
    by true passes any more = first (same_frame f g) refl passes any more
    by false passes any more = more any

-- what the directories before and after say of a frame, with the one that was got
pub record Moves (before after : List Frame) (got : Option Frame) : Type 0 where
  pub from : (f : Frame) → is_copy_of after f ≡ true → (is_copy_of before f ≡ true) ⊎ (got ≡ Some f)
  pub got_copy : (f : Frame) → got ≡ Some f → is_copy_of after f ≡ true

-- kept after: kept before and not going, or in hand
abbrev pub kept_before : (before after : List Frame) → Frame → Bool
kept_before before after f = is_copy_of before f && not (list_any (same_frame f) (filter (λ g. not (list_any (same_frame g) after)) before))

stays : (before after : List Frame) (f : Frame) → is_copy_of before f ≡ true → is_copy_of after f ≡ true → kept_before before after f ≡ true
stays before after f was now = by (list_any (same_frame f) (filter (λ g. not (list_any (same_frame g) after)) before)) refl
  where
    by : (b : Bool) → list_any (same_frame f) (filter (λ g. not (list_any (same_frame g) after)) before) ≡ b → kept_before before after f
        ≡ true
    by true goes =
        absurd (true≢false (sym now ∙ not-true (list_any (same_frame f) after) (going-is f (λ g. not (list_any (same_frame g) after))
        before goes)))
    by false goes = rw (was, goes) refl

leaves : (before after : List Frame) (f : Frame) → is_copy_of after f ≡ false → kept_before before after f ≡ false
leaves before after f gone = by (is_copy_of before f) refl
  where
    by : (b : Bool) → is_copy_of before f ≡ b → kept_before before after f ≡ false
    by true was =
        let goes = going-either f (λ g. not (list_any (same_frame g) after)) before was (ap not gone) in rw (was, goes) refl
    by false was = rw was refl

-- so a frame is used as often after as before
uses-same :
    (before after : List Frame) (got : Option Frame) (f : Frame) → Moves before after got → (got ≡ Some f → is_copy_of before f ≡ false) →
    bit_of (is_copy_of after f && true) + 0 ≡ bit_of (kept_before before after f) + bit_of (option_map_or (same_frame f) got false)
uses-same before after got f moves apart = by (is_copy_of after f) refl
  where
    Goal : Type 0
    Goal = bit_of (is_copy_of after f && true) + 0 ≡ bit_of (kept_before before after f) + bit_of (option_map_or (same_frame f) got false)

    in_hand : (o : Option Frame) → option_map_or (same_frame f) o false ≡ true → o ≡ Some f
    in_hand None h = absurd cc
    in_hand (Some g) h = ap (λ (y : Frame). Some y) (sym (same_frame-true f g h))

    no_hand : (got ≡ Some f → ⊥) → option_map_or (same_frame f) got false ≡ false
    no_hand none = hand (option_map_or (same_frame f) got false) refl
      where
        hand : (b : Bool) → option_map_or (same_frame f) got false ≡ b → option_map_or (same_frame f) got false ≡ false
        hand true e = absurd (none (in_hand got e))
        hand false e = e

    now : is_copy_of after f ≡ true → (is_copy_of before f ≡ true) ⊎ (got ≡ Some f) → Goal
    now is (inl was) =
        rw (is, stays before after f was is, no_hand (λ e. true≢false (sym was ∙ apart e))) refl
    now is (inr hand) =
        let none : kept_before before after f ≡ false =
        ap (λ b. b && not (list_any (same_frame f) (filter (λ g. not (list_any (same_frame g) after)) before))) (apart hand) in
        let held : option_map_or (same_frame f) got false ≡ true = ap (λ o. option_map_or (same_frame f) o false) hand
        ∙ same_frame-itself f in
        rw (is, none, held) refl

    by : (b : Bool) → is_copy_of after f ≡ b → Goal
    by true is = now is (moves.from f is)
    by false is =
        rw (is, leaves before after f is, no_hand (λ e. true≢false (sym (moves.got_copy f e) ∙ is))) refl

module _ (m : Machine) (answer : Answer) (s : Fine) (a : ℕ) (x : Session) (c : Course) (limits : IsWithinLimits m) (shows : Shows m
    answer s)
    (within : a < actor_count m) (stands : (private_of m s a).place ≡ InSession x) (is : x.phase ≡ Unlocking c) where
  abbrev p : Private
  p = private_of m s a

  abbrev page : ℕ
  page = x.fault.page

  abbrev made : Change
  made = change_made m answer a (private_of m s a).now x c

  abbrev d : Decision
  d = decision_of m answer a (private_of m s a).now x c

  abbrev t : Fine
  t = event m answer s a

  ok : SessionOk m answer a p x
  ok = session m answer s a x limits shows within stands

  on : session_on s.privates page ≡ Some (running a p.now x)
  on = unlock-on m answer s a x c limits shows within stands is

  dir : x.dir ≡ dir_of s.history page
  dir = shows.dir_read_is page (running a p.now x) on

  pub unlock-history : (event m answer s a).history ≡ s.history ++ item.Change (change_made m answer a (private_of m s a).now x c) ∷ []
  unlock-history = (unlock-changes m answer s a x c limits shows within stands is).history

  pub unlock-dir_after : dir_of (event m answer s a).history x.fault.page ≡ (decision_of m answer a (private_of m s a).now x c).after
  unlock-dir_after = ap (λ h. dir_of h page) unlock-history ∙ own-dir s.history made page refl

  sole : (y : Running) → session_on s.privates page ≡ Some y → y.actor ≡ a
  sole y there = by y (sym on ∙ there)
    where
      by : (y : Running) → Some (running a p.now x) ≡ Some y → y.actor ≡ a
      by y e = ap (λ o. option_map_or (λ (z : Running). z.actor) o a) (sym e)

  pub unlock-sole : (y : Running) → session_on s.privates x.fault.page ≡ Some y → y.actor ≡ a
  unlock-sole = sole

  -- the session is gone
  pub unlock-gone : session_on (event m answer s a).privates x.fault.page ≡ None
  unlock-gone =
      runs m answer s t a (word.Dir page) (dir_word d.after false) (unlock-after m answer s a x c limits shows within stands is)
      (Some (item.Change made)) page limits shows within (unlock-changes m answer s a x c limits shows within stands is)
      (unlock-named m answer s a x c limits shows within stands is) (eq-eqb page page refl) (unlock-goes m answer a p x c stands) sole
      ∙ gone (unlocks m answer a p x c (with_item p.journal (Some (item.Change made)))).session
    where
      gone :
          session_of (unlock-after m answer s a x c limits shows within stands is).place ≡ None →
          running_of (a, unlock-after m answer s a x c limits shows within stands is) ≡ None
      gone none = rw none refl

  hand : hand_of x ≡ c.got
  hand = ap (λ o. option_map_or (λ (k : Course). k.got) o None) (unlock-last m answer s a x c limits shows within stands is).course

  gone_back : (f : Frame) → gave_back m answer (Some (running a p.now x)) f ≡ list_any (same_frame f) (going x.dir d)
  gone_back f =
      let last = unlock-last m answer s a x c limits shows within stands is in
      rw last.course (ap (list_any (same_frame f)) (last.given (going x.dir d)))

  was_kept : (f : Frame) → is_kept m answer s page f ≡ kept_before x.dir.copies d.after.copies f
  was_kept f =
      (λ i. is_copy_of (sym dir i).copies f && not (gave_back m answer (on i) f))
      ∙ ap (λ b. is_copy_of x.dir.copies f && not b) (gone_back f)

  now_kept : (f : Frame) → is_kept m answer t page f ≡ (is_copy_of d.after.copies f && true)
  now_kept f = λ i. is_copy_of (unlock-dir_after i).copies f && not (gave_back m answer (unlock-gone i) f)

  rises : (b : Dir) → is_dir m b ≡ true → (f : Frame) → is_copy_of b.copies f ≡ true → copy_on f.module b.copies ≡ Some f
  rises b fits f copy = is_copy_of-on 0 b.copies f (dir_parts m b fits).1 copy

  moves-node : DecideFacts m x.dir c.got x.fault.cause d → Moves x.dir.copies d.after.copies c.got
  moves-node facts = record { from = from; got_copy = got_copy }
    where
      either : (f : Frame) → (copy_on f.module x.dir.copies ≡ Some f) ⊎ (c.got ≡ Some f) → (is_copy_of x.dir.copies f ≡ true) ⊎ (c.got ≡
          Some f)
      either f (inl was) = inl (copy_on-is f.module x.dir.copies f was)
      either f (inr got) = inr got

      from : (f : Frame) → is_copy_of d.after.copies f ≡ true → (is_copy_of x.dir.copies f ≡ true) ⊎ (c.got ≡ Some f)
      from f copy = either f (facts.copies_from f.module f (rises d.after facts.dir f copy))

      named : (f : Frame) (b : Bool) → (if b then Some d.frame else None) ≡ Some f → is_copy_of d.after.copies f ≡ true
      named f true e =
          let same : d.frame ≡ f = ap (λ o. option_map_or (λ (y : Frame). y) o d.frame) e in
          ap (is_copy_of d.after.copies) (sym same) ∙ copy_on-is d.frame.module d.after.copies d.frame facts.granted
      named f false e = absurd cc

      got_copy : (f : Frame) → c.got ≡ Some f → is_copy_of d.after.copies f ≡ true
      got_copy f got = named f (names_got d.action) (facts.got_back ∙ got)

  moves-daemon : ThawFacts m x.dir d → c.got ≡ None → Moves x.dir.copies d.after.copies c.got
  moves-daemon facts none = record {
    from = λ f copy. inl (ap (λ fs. is_copy_of fs f) (sym facts.copies) ∙ copy);
    got_copy = λ f got. absurd (none_some f got);
  }
    where
      none_some : (f : Frame) → c.got ≡ Some f → ⊥
      none_some f got = cc

  moves : Moves x.dir.copies d.after.copies c.got
  moves = by (actor-is m a within)
    where
      by : IsActor m a → Moves x.dir.copies d.after.copies c.got
      by (inl node) = moves-node (fault_decides m answer a p x c ok.fault (unlock-ok m answer s a x c limits shows within stands
          is).quiet.course node)
      by (inr daemon) =
          let facts = thaw_decides m answer a p x c ok.fault (unlock-ok m answer s a x c limits shows within stands is).quiet.course
          daemon in
          moves-daemon facts.0 facts.1

  hand_new : (f : Frame) → c.got ≡ Some f → is_copy_of x.dir.copies f ≡ false
  hand_new f got = by (is_copy_of x.dir.copies f) refl
    where
      none_some : copy_on f.module (dir_of s.history page).copies ≡ None → copy_on f.module (dir_of s.history page).copies ≡ Some f → ⊥
      none_some none some = cc

      by : (b : Bool) → is_copy_of x.dir.copies f ≡ b → is_copy_of x.dir.copies f ≡ false
      by false e = e
      by true e =
          absurd
          (none_some (shows.hand_apart page (running a p.now x) f on (hand ∙ got))
          (ap (λ (b : Dir). copy_on f.module b.copies) (sym dir) ∙ rises x.dir ok.dir f e))

  pub unlock-uses : (f : Frame) → is_frame m f ≡ true → page_uses m answer (event m answer s a) f x.fault.page ≡ page_uses m answer s f
      x.fault.page
  unlock-uses f frame =
      (λ i. bit_of (now_kept f i) + bit_of (is_hand (unlock-gone i) f))
      ∙ (uses-same x.dir.copies d.after.copies c.got f moves (hand_new f)
      ∙ sym ((λ i. bit_of (was_kept f i) + bit_of (is_hand (on i) f)) ∙ ap (λ o. bit_of (kept_before x.dir.copies d.after.copies f) +
      bit_of (option_map_or (same_frame f) o false)) hand))

  pub unlock-once : (f : Frame) → IsTrue (is_frame m f) → uses_of m answer (event m answer s a) f ≡ 1
  unlock-once =
      once-kept m answer s t a (word.Dir page) (dir_word d.after false) (unlock-after m answer s a x c limits shows within stands is)
      (Some (item.Change made)) page limits shows within (unlock-changes m answer s a x c limits shows within stands is)
      (unlock-named m answer s a x c limits shows within stands is) (eq-eqb page page refl) (unlock-goes m answer a p x c stands) sole
      (unlock-leaves m answer s a x c limits shows within stands is) unlock-uses

  flat : (w : ℕ) → flat_word m t.history page w ≡ flat_word m s.history page w
  flat w =
      ap (λ h. flat_word m h page w) unlock-history
      ∙ (λ i. data_word (flat_value-change m s.history made page w i) (flat_writes-change s.history made page w i))

  inside : page < m.pages
  inside = unlock-inside m answer s a x c limits shows within stands is

  kept_flat : (w : ℕ) (f : Frame) → w < m.words → is_kept m answer t page f ≡ true → frame_word m t f w ≡ flat_word m t.history page w
  kept_flat w f winside kept =
      let copy = (and_parts (is_copy_of d.after.copies f) true (sym (now_kept f) ∙ kept)).0 in
      let machine : is_frame m f ≡ true =
      kept-frame-of (unlock-decides m answer s a x c limits shows within stands is).dir copy in
      let same : frame_word m t f w ≡ frame_word m s f w =
      frame-word m answer s t a (word.Dir page) (dir_word d.after false) (unlock-after m answer s a x c limits shows within stands is)
      (Some (item.Change made)) page limits shows within (unlock-changes m answer s a x c limits shows within stands is)
      (unlock-named m answer s a x c limits shows within stands is) (eq-eqb page page refl) (unlock-goes m answer a p x c stands) sole f
      w machine
      winside in
      same ∙ (before copy (moves.from f copy) ∙ sym (flat w))
    where
      kept-frame-of : is_dir m d.after ≡ true → is_copy_of d.after.copies f ≡ true → is_frame m f ≡ true
      kept-frame-of fits copy =
          list_all_copy_on (is_frame m) f.module f d.after.copies (rises d.after fits f copy) (dir_parts m d.after fits).0

      before :
          is_copy_of d.after.copies f ≡ true → (is_copy_of x.dir.copies f ≡ true) ⊎ (c.got ≡ Some f) →
          frame_word m s f w ≡ flat_word m s.history page w
      before copy (inl was) = shows.kept_flat page w f inside winside (was_kept f ∙ stays x.dir.copies d.after.copies f was copy)
      before copy (inr got) =
          shows.hand_flat page w (running a p.now x) f on (hand ∙ got)
          (subst (λ k. w < k) (sym (unlock-last m answer s a x c limits shows within stands is).filled) winside)

  no_session : {Q : Type 0} (r : Running) → session_on t.privates page ≡ Some r → Q
  no_session r there = absurd (none_some unlock-gone there)
    where
      none_some : session_on t.privates page ≡ None → session_on t.privates page ≡ Some r → ⊥
      none_some none some = cc

  pub unlock-page : ShowsPage m answer (event m answer s a) x.fault.page
  unlock-page = record {
    lock = unlock-lock m answer s a x c limits shows within stands is ∙ sym (ap is_some unlock-gone);
    dir_read_is = λ r there. no_session r there;
    stamp_read_is = λ r st there. no_session r there;
    dir_is = unlock-dir m answer s a x c limits shows within stands is;
    stamp_is = unlock-stamp m answer s a x c limits shows within stands is ∙ sym (ap (stamp_by m answer t.history page) unlock-gone);
    copies_fit = unlock-copies m answer s a x c limits shows within stands is;
    hand_apart = λ r f there. no_session r there;
    enough_finds = λ enough r there. no_session r there;
    kept_flat = kept_flat;
    hand_flat = λ w r f there. no_session r there;
    read_flat = λ r y there. no_session r there;
    fault_not_held = λ e r there. no_session r there;
    posts_made = λ r there. no_session r there;
  }
