-- The bytes of elements in a row, and how many they are.
use Rattle.std.proofs.Common.{◌≡◌, ℕ, ◌+◌, ◌-◌, ◌^◌, ◌<◌, ◌≤◌, min, List, length, take, get_or, arith}
use Rattle.std.proofs.lemmas.List.Folds.{length-flat_map-take}
use Rattle.ep_tcpudp.specs.Options.{element_bytes, elements_bytes}
use Rattle.ep_tcpudp.specs.declared.transport.tcp_option_element.TcpOptionElement.{TcpOptionElement}

small_min : (n : ℕ) → min n (2 ^ 64 - 1) ≤ 40 → n ≤ 40
small_min n h = omega arith

-- the bytes before an element, and its own
pub elements_fit : (xs : List TcpOptionElement) (i len : ℕ) (bytes : List ℕ) (d : TcpOptionElement)
    → i < length xs → bytes ≡ elements_bytes (take i xs)
    → len ≡ min (length (elements_bytes xs)) (2 ^ 64 - 1) → len ≤ 40
    → length bytes + length (element_bytes (get_or xs i d)) ≤ 40
elements_fit xs i len bytes d inside is size small =
    let all : length (elements_bytes xs) ≤ 40 =
    small_min (length (elements_bytes xs)) (rw (← size) small) in
    rw is (omega (arith, length-flat_map-take element_bytes xs i d inside))
