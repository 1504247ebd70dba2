-- What holds of each of the 256 commands, by one computation each: its row is its entry, and the columns of the entry say what the
-- rule put into them.
use mathlib.Core.Path.{◌≡◌, refl}
use Prim.Native.Nat.{ℕ, ◌<◌}
use Rattle.document.specs.Services.{service_of}
use Rattle.document.specs.Kinds.{kind_of}
use Rattle.std.specs.declared.option.Option.TheVariants.{None}
use Rattle.codes_table.specs.Table.{length_of, length_in, service_in}
use Rattle.codes_rows.specs.Rule.{entry_of}
use Rattle.codes_rows.specs.Rows.{row_at, row_number}
use Rattle.codes_table.proofs.Entries.{same_rule}

pub row_at_lem : (c : ℕ) → c < 256 → row_at (row_number c) ≡ entry_of c
unfolding entry_of kind_of service_of
row_at_lem c h = same_rule (λ (k : ℕ). row_at (row_number k)) entry_of 0 256 c refl h

pub length_at : (c : ℕ) → c < 256 → length_in (entry_of c) ≡ length_of c
unfolding entry_of kind_of service_of
length_at c h = same_rule (λ (k : ℕ). length_in (entry_of k)) length_of None 256 c refl h

pub service_at : (c : ℕ) → c < 256 → service_in (entry_of c) ≡ service_of c
unfolding entry_of kind_of service_of
service_at c h = same_rule (λ (k : ℕ). service_in (entry_of k)) service_of (service_of 0) 256 c refl h
