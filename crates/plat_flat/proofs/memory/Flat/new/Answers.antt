use Rattle.std.proofs.Common.{◌*◌, arith, refl}
use Rattle.plat_base.specs.Seen.{machine}
use Rattle.plat_flat.proofs.Accesses.{place-within}
use Rattle.plat_flat.proofs.Starting.{few_pages, few_words, place-below, past-none, past-within, past-more, past-all}
use Rattle.plat_flat.proofs.memory.Flat.new.Goals as goal

pub loop-init-init : goal.loop-init-init
loop-init-init c =
    past-none (machine c.args.cfg.now) _ _ (cc) (c.in-Ok-Ok.ensures.items_if_clones_equal (λ y e. e))

pub overflow_mul-init : goal.overflow_mul-init
overflow_mul-init c =
    let cfg = c.args.cfg.now
    in let within = past-within (machine cfg) _ _ _ _ cfg.limits c.loop-init.invariant c.in-Some.ensures.steps
    in let below = place-below _ _ _ _ (few_pages (machine cfg) cfg.limits) (few_words (machine cfg) cfg.limits) within.0 within.1
    in omega arith

pub overflow_add-init : goal.overflow_add-init
overflow_add-init c =
    let cfg = c.args.cfg.now
    in let within = past-within (machine cfg) _ _ _ _ cfg.limits c.loop-init.invariant c.in-Some.ensures.steps
    in let below = place-below _ _ _ _ (few_pages (machine cfg) cfg.limits) (few_words (machine cfg) cfg.limits) within.0 within.1
    in omega arith

pub index_mut-requires : goal.index_mut-requires
index_mut-requires c =
    let cfg = c.args.cfg.now
    in let within = past-within (machine cfg) _ _ _ _ cfg.limits c.loop-init.invariant c.in-Some.ensures.steps
    in let below = place-within _ _ _ _ _ c.loop-init.invariant.started.size within.0 within.1
    in omega arith

pub loop-init-preserved : goal.loop-init-preserved
loop-init-preserved c =
    let cfg = c.args.cfg.now
    in past-more (machine cfg) _ _ _ _ cfg.limits c.loop-init.invariant c.in-Some.ensures.steps

pub invariant_of-result : goal.invariant_of-result
invariant_of-result c =
    let cfg = c.args.cfg.now
    in record {
      few_pages = few_pages (machine cfg) cfg.limits;
      few_words = few_words (machine cfg) cfg.limits;
      values = c.loop-init.invariant.started.size;
      versions = omega (arith, c.in-Ok-Ok.ensures'.len);
    }

pub returns : goal.returns
returns c =
    let cfg = c.args.cfg.now
    in let zeros = c.in-Ok-Ok.ensures'.items_if_clones_equal (λ y e. e)
    in past-all (machine cfg) _ _ _ c.loop-init.invariant c.in-None.ensures.steps.0 (cfg.pages * cfg.words) zeros refl
