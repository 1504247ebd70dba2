-- A lent block whose state is within its bounds: every byte of it is one, so every number is within its width too.
use mathlib.Core.Path.{◌≡◌, refl, ap, ◌∙◌}
use mathlib.Core.Bool.{true}
use mathlib.Core.List.{List}
use Prim.Native.Nat.{ℕ, zero, suc, ◌+◌, ◌^◌, ◌<◌, ◌≤◌}
use native.Mathlib.Omega.{arith}
use lib.ListN.{length, get_or, drop}
use lib.Seq.{sets}
use Rattle.document.specs.Numbers.{most_data}
use Rattle.document.specs.Bytes.{AllBytes}
use Rattle.document.specs.Variables.{definitions_in}
use Rattle.document.proofs.Bytes.{all_of_bytes}
use Rattle.bytes_fields.proofs.Ranges.{bytes_length}
use Rattle.tables_state.specs.State.{list_length}
use Rattle.state_parts.specs.State.{Instruments, Target}
use Rattle.state_parts.specs.Bounds.{sound}
use Rattle.state_parts.specs.Widths.{VariablesFit, TargetFits}
use Rattle.state_parts.specs.Within.{MemoryWithin, Within}
use Rattle.state_parts.proofs.ByteLaws.{all_drop, all_range}
use Rattle.state_parts.proofs.Fits.{range_below}
use Rattle.state_parts.proofs.Parts.{parts_of_lem}
use Rattle.state_block.specs.Places.{body_place, scope_place, samples_place, post_trigger_place, divider_place, trigger_address_place, threshold_place, recorded_place, wait_place, place_place, value_place, command_place, list_place, state_length}
use Rattle.state_block.specs.Layout.{decoded_receiver, decoded_body, decoded_definitions, decoded_variables, decoded_scope, decoded_recorder, decoded_application, decoded_tables, decoded_instruments, decoded, encoded_instruments}
use Rattle.state_block.proofs.Back.{stored_decoded}
use Rattle.state_block.proofs.Stored.{instruments_stored}

definitions_count : (n : ℕ) (part : List ℕ) → length (definitions_in true n part) ≡ n
definitions_count zero part = refl
definitions_count (suc n) part = ap suc (definitions_count n (drop 5 part))

addresses_below : (n : ℕ) (part : List ℕ) → AllBytes part → (i : ℕ) → (get_or (definitions_in true n part) i (record { address = 0; size = 0 })).address < 256 ^ 4
addresses_below zero part all i = omega arith
addresses_below (suc n) part all zero = range_below part 1 4 all
addresses_below (suc n) part all (suc i) = addresses_below n (drop 5 part) (all_drop 5 part all) i

module _ (block : List ℕ) (long : state_length ≤ length block) (small : (i : ℕ) → get_or block i 0 < 256) where
  all : AllBytes block
  all = all_of_bytes block small

  variables_fit : (at : ℕ) → VariablesFit (decoded_variables block at)
  unfolding decoded_definitions
  variables_fit at =
      record {
        eight = definitions_count 8 (drop (at + 1) block);
        addresses = addresses_below 8 (drop (at + 1) block) (all_drop (at + 1) block all);
      }

  -- every number of it is within its width, whatever the bounds say
  pub lent_fits : TargetFits (decoded block)
  unfolding decoded_scope decoded_recorder decoded_application decoded_tables
  lent_fits =
      record {
        body = bytes_length block body_place most_data (omega (arith, long));
        scope = variables_fit scope_place;
        recorder =
            record {
              plan =
                  record {
                    samples = range_below block samples_place 2 all;
                    after = range_below block post_trigger_place 2 all;
                    divider = range_below block divider_place 2 all;
                    address = range_below block trigger_address_place 4 all;
                    threshold = range_below block threshold_place 4 all;
                    variables = variables_fit recorded_place;
                  };
              run = record { wait = range_below block wait_place 2 all; place = range_below block place_place 2 all; value = range_below block value_place 4 all };
            };
        application = bytes_length block command_place most_data (omega (arith, long));
        tables = bytes_length block list_place list_length (omega (arith, long));
      }

  pub lent_within : (memory : List ℕ) → sound (decoded block) ≡ true → MemoryWithin memory → Within (decoded block) memory
  unfolding decoded_receiver decoded_application decoded_tables
  lent_within memory ok held =
      let parts = parts_of_lem (decoded block) ok in
      record {
        link_part =
            record {
              receiver = parts.receiver;
              command = small 2;
              size = lent_fits.body;
              body = all_range block body_place most_data all;
            };
        scope_part = record { sound = parts.scope_part; fits = lent_fits.scope };
        recorder_part = record { sound = parts.recorder_part; fits = lent_fits.recorder };
        application_part =
            record { sound = parts.application_part; size = lent_fits.application; bytes = all_range block command_place most_data all };
        tables_part = record { sound = parts.tables_part; size = lent_fits.tables; bytes = all_range block list_place list_length all };
        memory_part = held;
      }

  -- what is stored behind the link is read back
  pub instruments_back : (i : Instruments) → TargetFits (record { receiver = decoded_receiver block; body = decoded_body block; instruments = i })
      → decoded_instruments (sets block scope_place (encoded_instruments i)) ≡ i
  instruments_back i fits =
      ap decoded_instruments (instruments_stored block long small i)
      ∙ ap (λ (t : Target). t.instruments) (stored_decoded block (record { receiver = decoded_receiver block; body = decoded_body block; instruments = i }) long fits)
