-- How the plan's struct holds the document's plan.
use Rattle.std.specs.Prelude.{[]}
use Rattle.document.specs.Plan.{Trigger, Plan, no_trigger}
use Rattle.variables_list.specs.declared.Variables.{Variables}
use Rattle.variables_list.specs.State.{variables_of, kept}
use Rattle.recorder_plans.specs.declared.plan.Plan.{Plan as PlanState}

-- ---- what the struct means

abbrev pub trigger_of : PlanState → Trigger
trigger_of p =
    record { mode = p.mode; address = p.address; size = p.size; sign = p.sign; threshold = p.threshold }

abbrev pub plan_of : PlanState → Plan
plan_of p =
    record {
      samples = p.samples;
      post_trigger = p.post_trigger;
      divider = p.divider;
      trigger = trigger_of p;
      variables = variables_of p.variables;
    }

-- ---- how a plan is kept in the struct

-- the plan's numbers beside its variables
abbrev pub plan_kept : Plan → Variables → PlanState
plan_kept p v =
    record {
      samples = p.samples;
      post_trigger = p.post_trigger;
      divider = p.divider;
      mode = p.trigger.mode;
      size = p.trigger.size;
      sign = p.trigger.sign;
      address = p.trigger.address;
      threshold = p.trigger.threshold;
      variables = v;
    }

abbrev pub no_plan : PlanState
no_plan = plan_kept (record { samples = 0; post_trigger = 0; divider = 0; trigger = no_trigger; variables = [] }) (kept [])
