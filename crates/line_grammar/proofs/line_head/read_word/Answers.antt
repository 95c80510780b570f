use Rattle.std.proofs.Common.{rules, ◌∙◌, ◌++◌, ◌+◌, ◌-◌, sym, ap, drop, take, length, List, ℕ, arith, length-take}
use Rattle.std.proofs.lemmas.List.{take_rest}
use Rattle.line_grammar.proofs.WordLemmas.{prefix_of_word, no_word, other_prefix, whole_word}
use Rattle.line_grammar.proofs.line_head.read_word.Goals as goal

pub returns-then-not-starts_with : goal.returns-then-not-starts_with
returns-then-not-starts_with c =
    other_prefix c.args.word.now c.args.prefix.now c.args.bytes.now c.requires (search rules)

pub returns-then-starts_with : goal.returns-then-starts_with
returns-then-starts_with c =
    let word = c.args.word.now in
    let prefix = c.args.prefix.now in
    let bytes = c.args.bytes.now in
    let missing : List ℕ = take (length word - length prefix) (drop (length prefix) word) in
    whole_word word prefix bytes missing (search rules) (take_rest word (length prefix)) (search rules)
    ∙ ap (λ l. word ++ l) (sym (take_rest bytes (length missing)))

pub returns-then-starts_with-2 : goal.returns-then-starts_with-2
returns-then-starts_with-2 c =
    let word = c.args.word.now in
    let prefix = c.args.prefix.now in
    let bytes = c.args.bytes.now in
    let missing : List ℕ = take (length word - length prefix) (drop (length prefix) word) in
    let found = prefix_of_word word prefix bytes missing (search rules)
    (take_rest word (length prefix)) (search rules) (search rules) in
    let size = length-take (length prefix + length bytes) word in
    (found.0, let shorter = found.1 in omega arith)

pub returns-else-starts_with-2 : goal.returns-else-starts_with-2
returns-else-starts_with-2 c =
    let word = c.args.word.now in
    let prefix = c.args.prefix.now in
    let missing : List ℕ = take (length word - length prefix) (drop (length prefix) word) in
    no_word word prefix c.args.bytes.now missing (search rules)
    (take_rest word (length prefix)) (search rules) (search rules)
