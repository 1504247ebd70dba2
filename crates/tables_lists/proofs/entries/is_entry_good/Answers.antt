-- By the fields as they were read: each return is a case of the definition.
use mathlib.Core.Path.{refl, sym, ◌∙◌}
use native.Mathlib.Omega.{arith}
use borrow.Author.Tests.{lt-ltb, le-ltb, eq-eqb, ne_eqb}
use Rattle.tables_lists.proofs.Fields.{as_read}
use Rattle.tables_lists.proofs.entries.is_entry_good.Goals as goal

pub returns-then-type_address-ge-MEMORY_END : goal.returns-then-type_address-ge-MEMORY_END
returns-then-type_address-ge-MEMORY_END c =
    sym (rw (le-ltb c.from-type_address.result 16384 (omega arith)))
    ∙ as_read c.args.memory.now c.args.at _ _ _ (c.from-type_address.ensures ∙ c.at.ensures) refl refl

pub returns-then-base-eq0 : goal.returns-then-base-eq0
returns-then-base-eq0 c =
    sym (rw (lt-ltb c.from-type_address.result 16384 (omega arith), eq-eqb _ 0 c.if-base-eq0.true))
    ∙ as_read c.args.memory.now c.args.at _ _ _ (c.from-type_address.ensures ∙ c.at.ensures) c.base_size-base.ensures refl

pub returns-else-base-eq0 : goal.returns-else-base-eq0
returns-else-base-eq0 c =
    sym (rw (lt-ltb c.from-type_address.result 16384 (omega arith), ne_eqb _ 0 c.if-base-eq0.false))
    ∙ as_read c.args.memory.now c.args.at _ _ _ (c.from-type_address.ensures ∙ c.at.ensures) c.base_size-base.ensures c.at-else-base-eq0.ensures
