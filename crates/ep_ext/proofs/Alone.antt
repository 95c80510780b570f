-- Bytes start with at most one header.
use Rattle.std.proofs.Common.{arith, ◌≡◌, ℕ, List, ◌++◌, sym, ap, ◌∙◌}
use Rattle.ep_ext.specs.Raw.{IsRawExt, raw_of, raw_at}
use Rattle.ep_ext.specs.Fragment.{IsFragment, fragment_header_of, fragment_at}
use Rattle.ep_ext.specs.Auth.{IsAuth, auth_of, auth_at}
use Rattle.ep_base.proofs.Prefixes.{ok_same}
use Rattle.ep_ext.proofs.Prefixes.{raw_again, fragment_again, auth_again, same_rest}

pub raw_alone : (bytes a r b s : List ℕ) → IsRawExt a → bytes ≡ a ++ r → IsRawExt b
    → bytes ≡ b ++ s → a ≡ b
raw_alone bytes a r b s x e y f =
    ok_same a b (sym (raw_again a r x) ∙ ap raw_at (sym e ∙ f) ∙ raw_again b s y)

pub raw_read : (bytes a r b s : List ℕ) → IsRawExt a → bytes ≡ a ++ r → IsRawExt b → bytes ≡ b ++ s
    → (raw_of a ≡ raw_of b) × (r ≡ s)
raw_read bytes a r b s x e y f = let same = raw_alone bytes a r b s x e y f in
    grind (arith, same_rest)

pub fragment_alone : (bytes a r b s : List ℕ) → IsFragment a → bytes ≡ a ++ r → IsFragment b
    → bytes ≡ b ++ s → a ≡ b
fragment_alone bytes a r b s x e y f =
    ok_same a b (sym (fragment_again a r x) ∙ ap fragment_at (sym e ∙ f) ∙ fragment_again b s y)

pub fragment_read : (bytes a r b s : List ℕ) → IsFragment a → bytes ≡ a ++ r → IsFragment b
    → bytes ≡ b ++ s → (fragment_header_of a ≡ fragment_header_of b) × (r ≡ s)
fragment_read bytes a r b s x e y f = let same = fragment_alone bytes a r b s x e y f in
    grind (arith, same_rest)

pub auth_alone : (bytes a r b s : List ℕ) → IsAuth a → bytes ≡ a ++ r → IsAuth b
    → bytes ≡ b ++ s → a ≡ b
auth_alone bytes a r b s x e y f =
    ok_same a b (sym (auth_again a r x) ∙ ap auth_at (sym e ∙ f) ∙ auth_again b s y)

pub auth_read : (bytes a r b s : List ℕ) → IsAuth a → bytes ≡ a ++ r → IsAuth b → bytes ≡ b ++ s
    → (auth_of a ≡ auth_of b) × (r ≡ s)
auth_read bytes a r b s x e y f = let same = auth_alone bytes a r b s x e y f in
    grind (arith, same_rest)
