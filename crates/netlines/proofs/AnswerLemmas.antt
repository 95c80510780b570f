-- The list of each name after one more line, and the answer to the line.
use Rattle.std.proofs.Common.{◌≡◌, ◌∙◌, sym, ap, refl, subst, ℕ, ◌+◌, true, List, ◌∷◌, ◌++◌, length, arith, []}
use Rattle.std.specs.Prelude.{IsTrue}
use Rattle.etherparse.specs.packet.Class.{FragmentName}
use Rattle.etherparse.specs.declared.defrag.ip_frag_id.IpFragId.{IpFragId}
use Rattle.etherparse.specs.Outcome.{Held}
use Rattle.etherparse.specs.PoolCalls.{Lists, ShowsLists, no_lists}
use Rattle.etherparse.specs.ReassemblyTable.{Pool}
use Rattle.netlines.specs.Answers.{answer_after, command_answer, command_takes_memory, takes_memory}
use Rattle.netlines.specs.Arrivals.{held_after_more, held_with_line, lists_after_lines, lists_with_line}
use Rattle.line_grammar.specs.Commands.{Command, command_of}
use Rattle.lines.specs.LineAnswers.{number_after}

held_after_more-push : (name : FragmentName) (channel count : ℕ) (h : Held)
    (lines : List (List ℕ)) (line : List ℕ)
    → held_after_more name channel count h (lines ++ line ∷ [])
    ≡ held_with_line name channel (count + length lines + 1) (command_of line)
    (held_after_more name channel count h lines)
held_after_more-push name channel count h [] line = grind arith
held_after_more-push name channel count h (x ∷ lines) line =
    let next = held_with_line name channel (count + 1) (command_of x) h in
    let e : count + 1 + length lines ≡ count + length (x ∷ lines) = omega arith in
    cc (held_after_more-push name channel (count + 1) next lines line, e)

-- what is held of a message after one line more
pub held_after_lines-push : (lines : List (List ℕ)) (line : List ℕ)
    (name : FragmentName) (channel : ℕ)
    → lists_after_lines (lines ++ line ∷ []) name channel
    ≡ held_with_line name channel (number_after lines) (command_of line)
    (lists_after_lines lines name channel)
unfolding lists_after_lines
held_after_lines-push lines line name channel = grind (arith, held_after_more-push)

pub lists_after_lines-push : (lines : List (List ℕ)) (line : List ℕ)
    → lists_after_lines (lines ++ line ∷ [])
    ≡ lists_with_line (lists_after_lines lines) (number_after lines) (command_of line)
lists_after_lines-push lines line = grind (arith, held_after_lines-push)

pub lists_after_lines-nil : lists_after_lines [] ≡ no_lists
unfolding lists_after_lines
lists_after_lines-nil = refl

answer_line_is : (earlier : List (List ℕ)) (line : List ℕ)
    → command_answer (lists_after_lines earlier) (command_of line) ++ 10 ∷ []
    ≡ answer_after earlier line ++ 10 ∷ []
unfolding answer_after
answer_line_is earlier line = refl

takes_is : (earlier : List (List ℕ)) (line : List ℕ)
    → command_takes_memory (lists_after_lines earlier) (command_of line) ≡ takes_memory earlier line
unfolding takes_memory
takes_is earlier line = refl

module _ (old new : Pool (IpFragId ℕ) ℕ) (number : ℕ) (command : Command) (line : List ℕ)
    (earlier : List (List ℕ)) (shows : ShowsLists old (lists_after_lines earlier))
    (numbered : number ≡ number_after earlier) (is : command ≡ command_of line) where
  -- the line is answered, and its fragment is in the list of its name,
  pub answered_line : (text : List ℕ)
      → ((lists : Lists) → ShowsLists old lists → text ≡ command_answer lists command)
      → text ++ 10 ∷ [] ≡ answer_after earlier line ++ 10 ∷ []
  answered_line text reported =
      ap (λ t. t ++ 10 ∷ []) (reported (lists_after_lines earlier) shows
      ∙ ap (command_answer (lists_after_lines earlier)) is) ∙ answer_line_is earlier line

  pub answered_lists : ((lists : Lists) → ShowsLists old lists
      → ShowsLists new (lists_with_line lists number command))
      → ShowsLists new (lists_after_lines (earlier ++ line ∷ []))
  answered_lists shown =
      let e : lists_with_line (lists_after_lines earlier) number command
      ≡ lists_after_lines (earlier ++ line ∷ []) =
      grind (arith, lists_after_lines-push) in
      subst (ShowsLists new) e (shown (lists_after_lines earlier) shows)

  -- or it is out of memory
  pub answered_memory : ((lists : Lists) → ShowsLists old lists
      → command_takes_memory lists command ≡ true) → IsTrue (takes_memory earlier line)
  answered_memory memory_taken = sym (takes_is earlier line)
      ∙ ap (command_takes_memory (lists_after_lines earlier)) (sym is)
      ∙ memory_taken (lists_after_lines earlier) shows

-- a new pool
pub new_shows : (pool : Pool (IpFragId ℕ) ℕ)
    → ((p : Pool (IpFragId ℕ) ℕ) → p.reassemblies ≡ [] → ShowsLists p no_lists) → pool.reassemblies ≡ []
    → ShowsLists pool (lists_after_lines [])
new_shows pool new is = subst (ShowsLists pool) (sym lists_after_lines-nil) (new pool is)
