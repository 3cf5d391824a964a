use Rattle.std.proofs.Common.{length}
use Rattle.std.proofs.Common.{arith}
use Rattle.base_bytes.specs.Decoding.{value_at}
use Rattle.base_bytes.specs.Payload.{IsPayload}
use Rattle.base_bytes.proofs.Codes.{found_in_form, none_in_form}
use Rattle.base_bytes.proofs.Payloads.{is_payload, read_whole}
use Rattle.base_bytes.proofs.decode.decode_value.Goals as goal

pub returns-clause-found : goal.returns-clause-found
returns-clause-found c =
    let shapes = c.args.shapes.now in
    let ty = c.args.ty.now in
    let bytes = c.args.bytes.now in
    let depth = length shapes.items in
    rw c.or_none.ensures (found_in_form c.read_whole.result (value_at shapes depth ty bytes) c.read_whole.ensures (λ v. IsPayload shapes ty v bytes) (is_payload shapes ty depth bytes (λ i. omega (arith, c.type_inv.bytes i))))

pub returns-clause-none : goal.returns-clause-none
returns-clause-none c =
    let shapes = c.args.shapes.now in
    let ty = c.args.ty.now in
    let bytes = c.args.bytes.now in
    rw c.or_none.ensures (none_in_form c.read_whole.result (value_at shapes (length shapes.items) ty bytes) c.read_whole.ensures (λ v. IsPayload shapes ty v bytes) (read_whole shapes ty c.requires bytes))
