-- The recorder's setup (0x09, 0x0B): its fields, and what is wrong with them.
use Rattle.std.specs.Prelude.{Bool, cond, not, ◌&&◌, ◌||◌, List, [], ◌∷◌, ℕ, ◌+◌, ◌*◌, length, get_or, take, drop, eqb, ltb}
use Rattle.document.specs.Numbers.{is_in}
use Rattle.document.specs.Areas.{may_be_recorded, bytes_at}
use Rattle.document.specs.Values.{number}
use Rattle.document.specs.declared.Variable.{Variable}
use Rattle.document.specs.Variables.{address_width, count_in, variables_in, length_given, any_size_zero, count_wrong, all_may, set_size}

-- which edge of which variable; mode 0 has none
pub record Trigger : Type 0 where
  pub mode : ℕ
  pub address : ℕ
  pub size : ℕ
  pub sign : ℕ
  pub threshold : ℕ

-- what a setup fixes
pub record Plan : Type 0 where
  pub samples : ℕ
  pub post_trigger : ℕ
  pub divider : ℕ
  pub trigger : Trigger
  pub variables : List Variable

-- ---- the fields: "trigger mode 1 byte, samples 2, post-trigger 2, time divider 2, trigger address, trigger size 1,
-- sign 1, threshold 4 .., then as 0x08"

abbrev pub mode_field : List ℕ → ℕ
mode_field body = get_or body 0 0

abbrev pub samples_field : List ℕ → ℕ
samples_field body = number (bytes_at body 1 2)

abbrev pub post_trigger_field : List ℕ → ℕ
post_trigger_field body = number (bytes_at body 3 2)

abbrev pub divider_field : List ℕ → ℕ
divider_field body = number (bytes_at body 5 2)

abbrev pub trigger_address_field : Bool → List ℕ → ℕ
trigger_address_field ex body = number (bytes_at body 7 (address_width ex))

abbrev pub trigger_size_field : Bool → List ℕ → ℕ
trigger_size_field ex body = get_or body (7 + address_width ex) 0

abbrev pub sign_field : Bool → List ℕ → ℕ
sign_field ex body = get_or body (8 + address_width ex) 0

-- "only the first 'trigger size' bytes count"
abbrev pub threshold_field : Bool → List ℕ → ℕ
threshold_field ex body = number (take (trigger_size_field ex body) (bytes_at body (9 + address_width ex) 4))

-- where the count stands
abbrev pub head_width : Bool → ℕ
head_width ex = 13 + address_width ex

abbrev pub variables_part : Bool → List ℕ → List ℕ
variables_part ex body = drop (head_width ex) body

abbrev pub recorded_in : Bool → List ℕ → List Variable
recorded_in ex body = variables_in ex (variables_part ex body)

-- "With mode 0 the trigger's fields are not looked at."
abbrev pub looks_at_trigger : List ℕ → Bool
looks_at_trigger body = not (eqb (mode_field body) 0)

abbrev pub no_trigger : Trigger
no_trigger = record { mode = 0; address = 0; size = 0; sign = 0; threshold = 0 }

abbrev pub trigger_in : Bool → List ℕ → Trigger
trigger_in ex body =
    cond (looks_at_trigger body)
    (record {
      mode = mode_field body;
      address = trigger_address_field ex body;
      size = trigger_size_field ex body;
      sign = sign_field ex body;
      threshold = threshold_field ex body;
    })
    no_trigger

unfoldable pub plan_in : Bool → List ℕ → Plan
plan_in ex body =
    record {
      samples = samples_field body;
      post_trigger = post_trigger_field body;
      divider = divider_field body;
      trigger = trigger_in ex body;
      variables = recorded_in ex body;
    }

-- ---- what is refused

-- "a data length that is not the one its fields give (or too short to hold them), a trigger mode above 2, or, with mode 1
-- or 2, a sign field above 1"
abbrev pub recorder_layout_wrong : Bool → List ℕ → Bool
recorder_layout_wrong ex body =
    not (eqb (length body) (head_width ex + length_given ex (variables_part ex body)))
    || ltb 2 (mode_field body)
    || looks_at_trigger body && ltb 1 (sign_field ex body)

-- "a size of 0; a variable count of 0 or above 8; 0 samples; samples times set size above 4,096; with mode 1 or 2, a
-- trigger size other than 1, 2, 4"
abbrev pub recorder_size_wrong : Bool → List ℕ → Bool
recorder_size_wrong ex body =
    any_size_zero (recorded_in ex body)
    || count_wrong (count_in (variables_part ex body))
    || eqb (samples_field body) 0
    || ltb 4096 (samples_field body * set_size (recorded_in ex body))
    || looks_at_trigger body && not (is_in (trigger_size_field ex body) (1 ∷ 2 ∷ 4 ∷ []))

-- "Recorded variables and trigger must end at or below 12,288."
abbrev pub recorder_range_wrong : Bool → List ℕ → Bool
recorder_range_wrong ex body =
    not (all_may may_be_recorded (recorded_in ex body))
    || looks_at_trigger body && not (may_be_recorded (trigger_address_field ex body) (trigger_size_field ex body))
