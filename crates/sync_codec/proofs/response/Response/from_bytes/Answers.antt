use Rattle.std.proofs.Common.{arith}
use Rattle.base_bytes.proofs.Codes.{found_in_form, none_in_form}
use Rattle.sync_codec.specs.Messages.{IsResponse}
use Rattle.sync_codec.specs.working.Reading.{response_at}
use Rattle.sync_codec.proofs.MessageLaws.{is_response, response_read}
use Rattle.sync_codec.proofs.response.Response.from_bytes.Goals as goal

pub returns-clause-found : goal.returns-clause-found
returns-clause-found c =
    let bytes = c.args.bytes.now in
    rw c.or_none.ensures (found_in_form c.read_whole.result (response_at bytes) c.read_whole.ensures (λ response. IsResponse response bytes) (is_response bytes (λ i. omega (arith, c.type_inv.bytes i))))

pub returns-clause-none : goal.returns-clause-none
returns-clause-none c =
    let bytes = c.args.bytes.now in
    rw c.or_none.ensures (none_in_form c.read_whole.result (response_at bytes) c.read_whole.ensures (λ response. IsResponse response bytes) (response_read bytes))
