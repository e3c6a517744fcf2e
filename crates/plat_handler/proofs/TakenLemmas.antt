-- the frame that is taken from a pool
use Rattle.std.proofs.Common.{◌≡◌, ℕ, ◌-◌, ◌^◌, ◌<◌, ◌≤◌, Some, ap, sym, ◌∙◌, arith}
use Rattle.std.specs.Prelude.{bit_and}
use Rattle.std.specs.Int.{trailing_zeros, w64}
use Rattle.std.proofs.Math.Nat.{pow-le-pow_right}
use Rattle.plat_base.specs.Machine.{Machine}
use Rattle.plat_base.specs.Frames.{frame_at}
use Rattle.plat_base.specs.declared.frames.Frame.{Frame}
use Rattle.plat_base.specs.declared.words.Op.{Op}
use Rattle.plat_base.specs.declared.words.Op.TheVariants as op
use Rattle.plat_base.specs.declared.words.WordName.{WordName}
use Rattle.plat_base.specs.declared.words.WordName.TheVariants as word
use Rattle.plat_words.specs.declared.stamp_words.StampWord.{StampWord}
use Rattle.plat_words.proofs.Pools.{lowest_free-zeros, lowest_free-below, without_lowest-and}
use Rattle.plat_events.specs.Words.{lowest_free, without_lowest}
use Rattle.plat_events.specs.Sessions.{Returning, frame_taken, module_tried}
use Rattle.plat_handler.specs.Phases.{answer_of, session_seen, stamp_seen, fault_seen}
use Rattle.plat_handler.specs.Fits.{SessionFits, SeekFits}
use Rattle.plat_handler.specs.Decided.{Decides}
use Rattle.plat_handler.specs.declared.phases.Lock.{Lock}
use Rattle.plat_handler.proofs.CourseLemmas.{some-fits}
use Rattle.plat_handler.proofs.FaultLemmas.{fault-actor}

small : (n frames : ℕ) → n < 2 ^ frames → frames ≤ 64 → n < 2 ^ 64
small n frames h k = omega (arith, h, pow-le-pow_right {n = 2} (omega arith) {i = frames} {j = 64} k)

-- the frame that the program takes
pub taken-frame :
    (m : Machine) (lock : Lock) (stamp : StampWord) (i seen mo : ℕ) → 0 < seen → seen < 2 ^ m.frames → m.frames ≤ 64 →
    mo ≡ module_tried m (answer_of m) lock.actor lock.tick (session_seen lock Returning) (stamp_seen stamp) i →
    frame_at mo (trailing_zeros w64 seen)
    ≡ frame_taken m (answer_of m) lock.actor lock.tick (session_seen lock Returning) (stamp_seen stamp) i seen
taken-frame m lock stamp i seen mo p l k e =
    ap (λ (x : ℕ). frame_at x (trailing_zeros w64 seen)) e
    ∙ ap (λ (x : ℕ). frame_at (module_tried m (answer_of m) lock.actor lock.tick (session_seen lock Returning) (stamp_seen stamp) i) x)
    (sym (lowest_free-zeros seen p (small seen m.frames l k)))

-- it is one that the row can use
pub Decides-taken :
    (m : Machine) (lock : Lock) (stamp : StampWord) (i seen : ℕ) (f : Frame) → SessionFits m lock.actor (fault_seen lock.fault) lock.dir →
    SeekFits m lock.actor lock.tick (session_seen lock Returning) (stamp_seen stamp) i → 0 < seen → seen < 2 ^ m.frames → m.frames ≤ 64 →
    f ≡ frame_taken m (answer_of m) lock.actor lock.tick (session_seen lock Returning) (stamp_seen stamp) i seen →
    Decides m lock (record { stamp = stamp; got = Some f })
Decides-taken m lock stamp i seen f s h p l k e = record {
  dir = s.dir;
  node = fault-actor m lock.actor (fault_seen lock.fault) s.fault;
  fits = rw e (some-fits m (answer_of m) lock.dir stamp.last lock.tick lock.actor lock.fault.cause i (lowest_free seen) s.dir h.0
      (fault-actor m lock.actor (fault_seen lock.fault) s.fault) (lowest_free-below seen m.frames p l k) h.1);
}

-- the pool without it, as the program writes it
pub taken-pool :
    (mo mo' seen frames : ℕ) → mo ≡ mo' → 0 < seen → seen < 2 ^ frames → frames ≤ 64 →
    ◌≡◌ {A = WordName × Op} (word.Pool mo, op.Exchange seen (bit_and seen (seen - 1)))
    (word.Pool mo', op.Exchange seen (without_lowest seen))
taken-pool mo mo' seen frames e p l k =
    ap (λ (x : ℕ). let y : WordName × Op = (word.Pool x, op.Exchange seen (bit_and seen (seen - 1))) in y) e
    ∙ ap (λ (x : ℕ). let y : WordName × Op = (word.Pool mo', op.Exchange seen x) in y)
    (without_lowest-and seen p (small seen frames l k))
