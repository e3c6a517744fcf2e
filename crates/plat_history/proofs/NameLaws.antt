-- words that each name one value: what is read is spelled so, and what is spelled so is read
use Rattle.std.proofs.Common.{◌≡◌, ℕ, Bool, true, false, List, [], ◌∷◌, Ok, bytes_eq, refl, ap, ◌∙◌, ⊎_elim}
use Rattle.std.specs.List.{AllByRecursion}
use Rattle.std.proofs.lemmas.Bool.{cases_Bool}
use Rattle.std.proofs.lemmas.Slice.Eq.{bytes_eq-Decides}
use Rattle.plat_base.specs.declared.frames.State.{State}
use Rattle.plat_base.specs.declared.frames.State.TheVariants as state
use Rattle.plat_base.specs.declared.items.Right.{Right}
use Rattle.plat_base.specs.declared.items.Right.TheVariants as right
use Rattle.plat_base.specs.declared.items.Kind.{Kind}
use Rattle.plat_base.specs.declared.items.Kind.TheVariants as kind
use Rattle.plat_base.specs.declared.items.Cause.{Cause}
use Rattle.plat_base.specs.declared.items.Cause.TheVariants as cause
use Rattle.plat_base.specs.declared.items.Action.{Action}
use Rattle.plat_base.specs.declared.items.Action.TheVariants as action
use Rattle.plat_base.specs.declared.items.Removed.{Removed}
use Rattle.plat_base.specs.declared.items.Removed.TheVariants as removed
use Rattle.plat_base.specs.declared.items.Message.{Message}
use Rattle.plat_base.specs.declared.items.Message.TheVariants as message
use Rattle.plat_base.specs.declared.items.Moment.{Moment}
use Rattle.plat_base.specs.declared.items.Moment.TheVariants as moment
use Rattle.plat_base.specs.declared.endings.End.{End}
use Rattle.plat_base.specs.declared.endings.End.TheVariants as end
use Rattle.plat_base.specs.Report.{end_word}
use Rattle.plat_text.proofs.Results.{ok_is}
use Rattle.plat_text.proofs.WordLaws.{IsWordForm}
use Rattle.plat_grammar.specs.HistoryCanon.{kind_word, cause_word, action_word, removed_word, message_word, moment_word, right_word}
use Rattle.plat_grammar.specs.HistoryCanon.{head_word}
use Rattle.plat_grammar.specs.HistoryForms.{named, kinds, causes, actions, removals, messages, moments, rights, endings, heads}

-- any value may stand there
abbrev pub Any : {A : Type 0} → A → Type 0
Any x = Unit {0}

module _ {A : Type 0} (spell : A → List ℕ) where
  named-takes : (names : List (List ℕ × A)) (w : List ℕ) (x : A) → AllByRecursion (λ n. n.0 ≡ spell n.1) names → named names w ≡ Ok x →
      w ≡ spell x
  named-takes [] w x h e = cc
  named-takes (n ∷ ns) w x h e = ⊎_elim
      (λ t. let value : n.1 ≡ x = ok_is n.1 x (rw t at e) in (bytes_eq-Decides w n.0).0 t ∙ h.0 ∙ ap spell value)
      (λ t. named-takes ns w x h.1 (rw t at e))
      (cases_Bool (bytes_eq w n.0))

  named-law : (names : List (List ℕ × A)) → AllByRecursion (λ n. n.0 ≡ spell n.1) names → ((x : A) → named names (spell x) ≡ Ok x) →
      IsWordForm (named names) spell Any
  named-law names h again = record {
    takes = λ w x e. (named-takes names w x h e, tt);
    again = λ x _. again x;
  }

pub kinds-law : IsWordForm (named kinds) kind_word Any
kinds-law = named-law kind_word kinds (refl, (refl, (refl, tt))) again where
  again : (x : Kind) → named kinds (kind_word x) ≡ Ok x
  again kind.Load = refl
  again kind.Store = refl
  again kind.Add = refl

pub causes-law : IsWordForm (named causes) cause_word Any
causes-law = named-law cause_word causes (refl, (refl, (refl, tt))) again where
  again : (x : Cause) → named causes (cause_word x) ≡ Ok x
  again cause.Read = refl
  again cause.Write = refl
  again cause.Thaw = refl

pub actions-law : IsWordForm (named actions) action_word Any
actions-law = named-law action_word actions (refl, (refl, (refl, (refl, (refl, (refl, (refl, tt))))))) again where
  again : (x : Action) → named actions (action_word x) ≡ Ok x
  again action.Fill = refl
  again action.MapLocal = refl
  again action.MapRemote = refl
  again action.Replicate = refl
  again action.Migrate = refl
  again action.Collapse = refl
  again action.Thaw = refl

pub removals-law : IsWordForm (named removals) removed_word Any
removals-law = named-law removed_word removals (refl, (refl, (refl, tt))) again where
  again : (x : Removed) → named removals (removed_word x) ≡ Ok x
  again removed.Nothing = refl
  again removed.Writes = refl
  again removed.All = refl

pub messages-law : IsWordForm (named messages) message_word Any
messages-law = named-law message_word messages (refl, (refl, tt)) again where
  again : (x : Message) → named messages (message_word x) ≡ Ok x
  again message.Invalidate = refl
  again message.Restrict = refl

pub moments-law : IsWordForm (named moments) moment_word Any
moments-law = named-law moment_word moments (refl, (refl, tt)) again where
  again : (x : Moment) → named moments (moment_word x) ≡ Ok x
  again moment.Interrupt = refl
  again moment.Activation = refl

pub rights-law : IsWordForm (named rights) right_word Any
rights-law = named-law right_word rights (refl, (refl, tt)) again where
  again : (x : Right) → named rights (right_word x) ≡ Ok x
  again right.Read = refl
  again right.Write = refl

pub endings-law : IsWordForm (named endings) end_word Any
endings-law = named-law end_word endings (refl, (refl, (refl, (refl, (refl, tt))))) again where
  again : (x : End) → named endings (end_word x) ≡ Ok x
  again end.Halted = refl
  again end.Trapped = refl
  again end.Spent = refl
  again end.NoFrames = refl
  again end.Cut = refl

pub heads-law : IsWordForm (named heads) head_word Any
heads-law = named-law head_word heads (refl, (refl, (refl, (refl, (refl, (refl, (refl, (refl, tt)))))))) (λ x. again x.0 x.1) where
  again : (s : State) (frozen : Bool) → named heads (head_word (s, frozen)) ≡ Ok (s, frozen)
  again state.Empty false = refl
  again state.Present1 false = refl
  again state.PresentPlus false = refl
  again state.Modified false = refl
  again state.Empty true = refl
  again state.Present1 true = refl
  again state.PresentPlus true = refl
  again state.Modified true = refl
