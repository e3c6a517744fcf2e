-- the words of a canonical history text are plain, so the text is read as its history again
use Rattle.std.proofs.Common.{◌≡◌, ℕ, ◌+◌, ◌^◌, ◌<◌, ◌≤◌, Bool, true, false, List, [], ◌∷◌, ◌++◌, length, map, Option, Some, None, Ok}
use Rattle.std.proofs.Common.{codes, refl, ◌∙◌, arith}
use Rattle.std.specs.List.{AllByRecursion, list_all, join_with_byte}
use Rattle.std.specs.Fmt.{decimal}
use Rattle.std.proofs.lemmas.Bool.{and_parts, and_from}
use Rattle.std.proofs.lemmas.List.Folds.{list_all-append}
use Rattle.plat_base.specs.Machine.{Machine}
use Rattle.plat_base.specs.Decide.{is_frame, modules_rise}
use Rattle.plat_base.specs.Report.{end_word}
use Rattle.plat_base.specs.Canon.{Words, canon}
use Rattle.plat_base.specs.declared.frames.Frame.{Frame}
use Rattle.plat_base.specs.declared.frames.State.{State}
use Rattle.plat_base.specs.declared.frames.State.TheVariants as state
use Rattle.plat_base.specs.declared.frames.Dir.{Dir}
use Rattle.plat_base.specs.declared.items.Right.{Right}
use Rattle.plat_base.specs.declared.items.Right.TheVariants as right
use Rattle.plat_base.specs.declared.items.Grant.{Grant}
use Rattle.plat_base.specs.declared.items.Kind.{Kind}
use Rattle.plat_base.specs.declared.items.Kind.TheVariants as kind
use Rattle.plat_base.specs.declared.items.Cause.{Cause}
use Rattle.plat_base.specs.declared.items.Cause.TheVariants as cause
use Rattle.plat_base.specs.declared.items.Action.{Action}
use Rattle.plat_base.specs.declared.items.Action.TheVariants as action
use Rattle.plat_base.specs.declared.items.Removed.{Removed}
use Rattle.plat_base.specs.declared.items.Removed.TheVariants as removed
use Rattle.plat_base.specs.declared.items.Message.{Message}
use Rattle.plat_base.specs.declared.items.Message.TheVariants as message
use Rattle.plat_base.specs.declared.items.Moment.{Moment}
use Rattle.plat_base.specs.declared.items.Moment.TheVariants as moment
use Rattle.plat_base.specs.declared.items.Access.{Access}
use Rattle.plat_base.specs.declared.items.Change.{Change}
use Rattle.plat_base.specs.declared.items.Applied.{Applied}
use Rattle.plat_base.specs.declared.items.Switch.{Switch}
use Rattle.plat_base.specs.declared.items.Item.{Item}
use Rattle.plat_base.specs.declared.items.Item.TheVariants as item
use Rattle.plat_base.specs.declared.endings.End.{End}
use Rattle.plat_base.specs.declared.endings.End.TheVariants as end
use Rattle.plat_base.specs.declared.endings.Ended.{Ended}
use Rattle.plat_grammar.specs.HistoryCanon.{History, point, comma, frame_word, grant_word, head_word, copies_part, dir_word, kind_word}
use Rattle.plat_grammar.specs.HistoryCanon.{cause_word, action_word, removed_word, message_word, moment_word, right_word, access_words}
use Rattle.plat_grammar.specs.HistoryCanon.{change_words, applied_words, switch_words, item_words, ended_lines, told_lines, canon_history}
use Rattle.plat_grammar.specs.HistoryCanon.{history_text}
use Rattle.plat_grammar.specs.HistoryFaults.{history_at}
use Rattle.plat_grammar.specs.HistoryGrammar.{are_frames, is_told_dir, is_told_grant, IsToldAccess, IsToldChange, IsToldApplied}
use Rattle.plat_grammar.specs.HistoryGrammar.{IsToldSwitch, IsTold, IsToldEnd, IsHistory, IsHistoryTextOf, IsShortHistory}
use Rattle.plat_text.proofs.PlainLaws.{is_plain, IsPlain, IsPlainLine, all-append, plain-cons, decimal-digits, decimal-plain, lines-again}
use Rattle.plat_machine.proofs.PlainCanon.{canon-plain}
use Rattle.plat_history.proofs.PartLaws.{frame_parts, translation-numbers}
use Rattle.plat_history.proofs.ItemLaws.{IsSmall}
use Rattle.plat_history.proofs.HistoryLaws.{small-from, history-again}

abbrev ArePlain : List Words → Type 0
ArePlain lines = AllByRecursion IsPlainLine lines

-- ---- words that name a value

kind-plain : (k : Kind) → IsPlain (kind_word k)
kind-plain kind.Load = refl
kind-plain kind.Store = refl
kind-plain kind.Add = refl

cause-plain : (c : Cause) → IsPlain (cause_word c)
cause-plain cause.Read = refl
cause-plain cause.Write = refl
cause-plain cause.Thaw = refl

action-plain : (a : Action) → IsPlain (action_word a)
action-plain action.Fill = refl
action-plain action.MapLocal = refl
action-plain action.MapRemote = refl
action-plain action.Replicate = refl
action-plain action.Migrate = refl
action-plain action.Collapse = refl
action-plain action.Thaw = refl

removed-plain : (r : Removed) → IsPlain (removed_word r)
removed-plain removed.Nothing = refl
removed-plain removed.Writes = refl
removed-plain removed.All = refl

message-plain : (x : Message) → IsPlain (message_word x)
message-plain message.Invalidate = refl
message-plain message.Restrict = refl

moment-plain : (x : Moment) → IsPlain (moment_word x)
moment-plain moment.Interrupt = refl
moment-plain moment.Activation = refl

right-plain : (r : Right) → list_all is_plain (right_word r) ≡ true
right-plain right.Read = refl
right-plain right.Write = refl

end-plain : (e : End) → IsPlain (end_word e)
end-plain end.Halted = refl
end-plain end.Trapped = refl
end-plain end.Spent = refl
end-plain end.NoFrames = refl
end-plain end.Cut = refl

head-plain : (s : State) (frozen : Bool) → IsPlain (head_word (s, frozen))
head-plain state.Empty false = refl
head-plain state.Present1 false = refl
head-plain state.PresentPlus false = refl
head-plain state.Modified false = refl
head-plain state.Empty true = refl
head-plain state.Present1 true = refl
head-plain state.PresentPlus true = refl
head-plain state.Modified true = refl

-- ---- words that are put together

bytes-append : (v w : List ℕ) → list_all is_plain v ≡ true → list_all is_plain w ≡ true → list_all is_plain (v ++ w) ≡ true
bytes-append v w h k = list_all-append is_plain v w ∙ and_from _ _ h k

plain-append : (v w : List ℕ) → IsPlain v → list_all is_plain w ≡ true → IsPlain (v ++ w)
plain-append [] w h k = cc
plain-append (b ∷ bs) w h k =
    let bytes = (and_parts _ _ h).1 in
    let parts = and_parts (is_plain b) (list_all is_plain bs) bytes in
    plain-cons b (bs ++ w) parts.0 (bytes-append bs w parts.1 k)

module _ (m : Machine) (small : IsSmall m) where
  entries : length m.entries ≤ 2 ^ 32
  entries = small.entries

  nodes : m.nodes ≤ 2 ^ 32
  nodes = omega (arith, small.nodes)

  frames : m.frames ≤ 2 ^ 32
  frames = small.frames

  frame-bytes : (f : Frame) → is_frame m f ≡ true → list_all is_plain (frame_word f) ≡ true
  frame-bytes f h =
      let parts = frame_parts m entries nodes frames f h in
      bytes-append (decimal f.module) (point ∷ decimal f.number) (decimal-digits f.module (omega (arith, parts.0, nodes)))
      (bytes-append (point ∷ []) (decimal f.number) refl (decimal-digits f.number (omega (arith, parts.1, frames))))

  joined-bytes : (f : Frame) (fs : List Frame) → list_all (is_frame m) (f ∷ fs) ≡ true →
      list_all is_plain (join_with_byte comma (map frame_word (f ∷ fs))) ≡ true
  joined-bytes f [] h = frame-bytes f (and_parts (is_frame m f) true h).0
  joined-bytes f (g ∷ gs) h =
      let parts = and_parts (is_frame m f) (list_all (is_frame m) (g ∷ gs)) h in
      bytes-append (frame_word f) (comma ∷ join_with_byte comma (map frame_word (g ∷ gs))) (frame-bytes f parts.0)
      (bytes-append (comma ∷ []) (join_with_byte comma (map frame_word (g ∷ gs))) refl (joined-bytes g gs parts.1))

  copies-bytes : (fs : List Frame) → are_frames m fs ≡ true → list_all is_plain (copies_part fs) ≡ true
  copies-bytes [] h = refl
  copies-bytes (f ∷ fs) h = joined-bytes f fs (and_parts (list_all (is_frame m) (f ∷ fs)) (modules_rise 0 (f ∷ fs)) h).0

  dir-plain : (d : Dir) → is_told_dir m d ≡ true → IsPlain (dir_word d)
  dir-plain d h = plain-append (head_word (d.state, d.frozen)) (copies_part d.copies) (head-plain d.state d.frozen)
      (copies-bytes d.copies h)

  grant-plain : (g : Option Grant) → is_told_grant m g ≡ true → IsPlain (grant_word g)
  grant-plain None h = refl
  grant-plain (Some g) h =
      let parts = translation-numbers m entries nodes frames g h in
      let rest : List ℕ = frame_word g.frame ++ point ∷ right_word g.right in
      plain-append (decimal g.entry) (point ∷ rest) (decimal-plain g.entry (omega (arith, parts.0, entries)))
      (bytes-append (point ∷ []) rest refl (bytes-append (frame_word g.frame) (point ∷ right_word g.right) (frame-bytes g.frame parts.1)
      (bytes-append (point ∷ []) (right_word g.right) refl (right-plain g.right))))

  -- ---- lines

  access-plain : (a : Access) → IsToldAccess m a → IsPlainLine (access_words a)
  unfolding access_words
  access-plain a h =
      let f = frame_parts m entries nodes frames a.frame h.frame in (
        refl,
        (
          refl,
          (
            decimal-plain a.actor (omega (arith, h.actor, nodes)),
            (
              kind-plain a.kind,
              (
                decimal-plain a.space (omega (arith, h.space)),
                (
                  decimal-plain a.addr h.addr,
                  (
                    decimal-plain a.page (omega (arith, h.page, small.pages)),
                    (
                      decimal-plain a.word (omega (arith, h.word, small.words)),
                      (
                        decimal-plain a.old h.old,
                        (
                          decimal-plain a.new h.new,
                          (
                            decimal-plain a.version h.version,
                            (
                              decimal-plain a.frame.module (omega (arith, f.0, nodes)),
                              (
                                decimal-plain a.frame.number (omega (arith, f.1, frames)),
                                (decimal-plain a.grant h.grant, tt),
                              ),
                            ),
                          ),
                        ),
                      ),
                    ),
                  ),
                ),
              ),
            ),
          ),
        ),
      )

  change-plain : (c : Change) → IsToldChange m c → IsPlainLine (change_words c)
  unfolding change_words
  change-plain c h = (
    refl,
    (
      refl,
      (
        decimal-plain c.actor (omega (arith, h.actor, small.nodes)),
        (
          decimal-plain c.page (omega (arith, h.page, small.pages)),
          (
            decimal-plain c.seq h.seq,
            (
              decimal-plain c.time h.time,
              (
                cause-plain c.cause,
                (
                  action-plain c.action,
                  (
                    removed-plain c.removed,
                    (
                      dir-plain c.before h.before,
                      (
                        dir-plain c.after h.after,
                        (grant-plain c.granted h.granted, tt),
                      ),
                    ),
                  ),
                ),
              ),
            ),
          ),
        ),
      ),
    ),
  )

  applied-plain : (a : Applied) → IsToldApplied m a → IsPlainLine (applied_words a)
  unfolding applied_words
  applied-plain a h = (
    refl,
    (
      refl,
      (
        decimal-plain a.actor (omega (arith, h.actor, nodes)),
        (
          decimal-plain a.entry (omega (arith, h.entry, entries)),
          (
            message-plain a.message,
            (moment-plain a.moment, tt),
          ),
        ),
      ),
    ),
  )

  switch-plain : (s : Switch) → IsToldSwitch m s → IsPlainLine (switch_words s)
  unfolding switch_words
  switch-plain s h =
      (refl, (refl, (decimal-plain s.actor (omega (arith, h.actor, nodes)), (decimal-plain s.space (omega (arith, h.space)), tt))))

  item-plain : (i : Item) → IsTold m i → IsPlainLine (item_words i)
  item-plain (item.Access a) h = access-plain a h
  item-plain (item.Change c) h = change-plain c h
  item-plain (item.Applied a) h = applied-plain a h
  item-plain (item.Switch s) h = switch-plain s h

  items-plain : (is : List Item) → AllByRecursion (IsTold m) is → ArePlain (map item_words is)
  items-plain [] h = tt
  items-plain (i ∷ is) h = (item-plain i h.0, items-plain is h.1)

ends-plain : (q : ℕ) (es : List Ended) → q + length es < 2 ^ 32 → AllByRecursion IsToldEnd es → ArePlain (ended_lines q es)
ends-plain q [] few h = tt
ends-plain q (e ∷ es) few h = (
  (refl, (refl, (decimal-plain q (omega (arith, few)), (end-plain e.end, (decimal-plain e.turns (omega (arith, h.0)), tt))))),
  ends-plain (q + 1) es (omega (arith, few)) h.1,
)

history-plain : (h : History) → IsHistory h → ArePlain (canon_history h)
history-plain h fits =
    let m = h.machine in
    let small = small-from m fits.machine fits.short in
    let few : 0 + length h.ends < 2 ^ 32 = omega (arith, fits.numbers.count, small.nodes) in
    let count : IsPlainLine (codes "items" ∷ decimal (length h.items) ∷ []) =
    (refl, (refl, (decimal-plain (length h.items) (omega (arith, fits.numbers.few)), tt))) in (
      (refl, (refl, (refl, tt))),
      all-append IsPlainLine (canon m) (told_lines h.items h.ends) (canon-plain m fits.machine) (
        count,
        all-append IsPlainLine (map item_words h.items) _ (items-plain m small h.items fits.numbers.items) (
          (refl, (refl, tt)),
          all-append IsPlainLine (ended_lines 0 h.ends) _ (ends-plain 0 h.ends few fits.numbers.ends)
              ((refl, (refl, tt)), tt),
        ),
      ),
    )

-- the canonical text of a history is a text of it
pub history_text-is_text : (h : History) → IsHistory h → IsShortHistory h → IsHistoryTextOf (history_text h) h
unfolding history_text
history_text-is_text h fits short =
    let again = lines-again 1 (canon_history h) (history-plain h fits) in
    record { size = short; clean = again.clean; words = again.words }

-- so it is read as this history
pub history_text-again : (h : History) → IsHistory h → IsShortHistory h → history_at (history_text h) ≡ Ok h
history_text-again h fits short = history-again (history_text h) h fits (history_text-is_text h fits short)
