use Rattle.header_descriptions.proofs.show.byte_lines.+append_number.Given as goal

abbrev pub decreases-append_number : goal.decreases-append_number
decreases-append_number l = l.n
