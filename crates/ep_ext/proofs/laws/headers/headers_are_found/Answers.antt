use Rattle.ep_ext.proofs.Found.{raw_taken, fragment_taken, auth_taken, auth_after_found, auth_after_again}
use Rattle.ep_ext.proofs.laws.headers.headers_are_found.Goals as goal

pub returns-clause-raw : goal.returns-clause-raw
returns-clause-raw c = raw_taken

pub returns-clause-fragment : goal.returns-clause-fragment
returns-clause-fragment c = fragment_taken

pub returns-clause-auth : goal.returns-clause-auth
returns-clause-auth c = auth_taken

pub returns-clause-after : goal.returns-clause-after
returns-clause-after c =
    λ number bytes auth. (
      auth_after_found number bytes auth,
      λ is. auth_after_again number bytes auth is.0 is.1,
    )
