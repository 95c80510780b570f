-- What the options are in the end, where a `&mut` to their bytes was returned.
use Rattle.std.specs.Prelude.{ℕ, List, length}
use Rattle.std.specs.List.{refill}
use Rattle.std.specs.Borrow.{Lends, Fml, MutBor, Array, u8}
use Rattle.ep_ip.specs.contracts.net.ipv4_options.Ipv4Options.{the_row}

-- once the borrow r ends, the options are the bytes that r shows last, as many as before
abbrev pub lends_bytes : MutBor (List ℕ) → MutBor (List ℕ) → Fml
lends_bytes options r = Lends the_row (Array u8 0) options r
    (λ bytes. refill (length options.now) options.now bytes)
