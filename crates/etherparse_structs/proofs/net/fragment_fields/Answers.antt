use Rattle.etherparse_structs.proofs.ExtensionLemmas.{fragment_is}
use Rattle.etherparse_structs.proofs.net.fragment_fields.Goals as goal

pub returns : goal.returns
returns c = fragment_is c.whole_header_is_found.ensures.least c.rows_are_found.ensures
    c.args.extensions.now c.slice-headers.ensures.view c.first_fragment.result c.first_fragment.ensures
