use Rattle.std.proofs.Common.{◌≡◌, vec_len}
use Rattle.zot_outside.proofs.sockets.tcp_listeners.TcpListeners.bind.Given as goal

-- each address so far has its socket
abbrev pub invariant-loop-address : goal.invariant-loop-address
invariant-loop-address g l = vec_len l.listeners ≡ l.address-index
