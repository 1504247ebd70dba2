-- Refused by the data's length, by the address, or without an end; else two bytes, low byte first.
use mathlib.Core.Path.{◌≡◌, sym, ap, ◌∙◌}
use mathlib.Core.Bool.{true}
use mathlib.Core.List.{List}
use Prim.Native.Nat.{ℕ, ◌+◌, ◌≤◌}
use native.Mathlib.Omega.{arith}
use lib.ListN.{length}
use Rattle.document.specs.Numbers.{done}
use Rattle.document.specs.Areas.{may_be_read}
use Rattle.document.specs.Values.{number, little_endian}
use Rattle.document.specs.Variables.{address_width}
use Rattle.document.specs.Strings.{string_length, string_ends}
use Rattle.serve_reads.proofs.Strings.{ends_within, ends_not, string_layout, string_outside, string_unended, string_told}
use Rattle.serve_reads.proofs.measuring.measured.Goals as goal

pub returns-then-body-address_width : goal.returns-then-body-address_width
returns-then-body-address_width c =
    λ g same. string_layout g c.args.service c.args.body.now (λ e. c.if-body-address_width.true (e ∙ sym c.address_width.ensures.0))

-- ---- the data are an address

pub returns-then-not-may_be_read : goal.returns-then-not-may_be_read
returns-then-not-may_be_read c =
    let whole : length c.args.body.now ≡ address_width c.args.service.ex = c.if-body-address_width.false ∙ c.address_width.ensures.0 in
    let read_at : c.may_be_read.result ≡ may_be_read (number c.args.body.now) 1 = c.may_be_read.ensures ∙ ap (λ (k : ℕ). may_be_read k 1) c.number-address.ensures.value in
    λ g same. string_outside g c.args.service c.args.body.now whole (sym read_at ∙ c.if-not-may_be_read.true)

-- ---- it is inside

pub returns-then-from-size : goal.returns-then-from-size
returns-then-from-size c =
    let whole : length c.args.body.now ≡ address_width c.args.service.ex = c.if-body-address_width.false ∙ c.address_width.ensures.0 in
    let read_at : c.may_be_read.result ≡ may_be_read (number c.args.body.now) 1 = c.may_be_read.ensures ∙ ap (λ (k : ℕ). may_be_read k 1) c.number-address.ensures.value in
    let inside : may_be_read (number c.args.body.now) 1 ≡ true = sym read_at ∙ c.if-not-may_be_read.false in
    let from : c.number-address.result ≡ number c.args.body.now = c.number-address.ensures.value in
    let measured : c.string_length-size.result ≡ string_length c.args.memory.now (number c.args.body.now) = c.string_length-size.ensures.0 ∙ ap (string_length c.args.memory.now) from in
    let at = number c.args.body.now in
    λ g same.
    string_unended g c.args.service c.args.body.now whole inside
    (ap (λ (m : List ℕ). string_ends m at) same ∙ ends_not c.args.memory.now at (omega (arith, c.if-from-size.true, from, measured)))

pub returns : goal.returns
returns c =
    let whole : length c.args.body.now ≡ address_width c.args.service.ex = c.if-body-address_width.false ∙ c.address_width.ensures.0 in
    let read_at : c.may_be_read.result ≡ may_be_read (number c.args.body.now) 1 = c.may_be_read.ensures ∙ ap (λ (k : ℕ). may_be_read k 1) c.number-address.ensures.value in
    let inside : may_be_read (number c.args.body.now) 1 ≡ true = sym read_at ∙ c.if-not-may_be_read.false in
    let from : c.number-address.result ≡ number c.args.body.now = c.number-address.ensures.value in
    let measured : c.string_length-size.result ≡ string_length c.args.memory.now (number c.args.body.now) = c.string_length-size.ensures.0 ∙ ap (string_length c.args.memory.now) from in
    let within : number c.args.body.now + string_length c.args.memory.now (number c.args.body.now) ≤ length c.args.memory.now = omega (arith, c.string_length-size.ensures.1, from, measured) in
    let at = number c.args.body.now in
    λ g same.
    ap (λ (n : ℕ). record { status = done; body = little_endian 2 n }) (measured ∙ ap (λ (m : List ℕ). string_length m at) (sym same))
    ∙ string_told g c.args.service c.args.body.now whole inside
    (ap (λ (m : List ℕ). string_ends m at) same ∙ ends_within c.args.memory.now at (omega (arith, within)) (λ h. c.if-from-size.false (omega (arith, h, from, measured))) within)
