use Rattle.std.proofs.Common.{◌≡◌, ◌-◌, ◌≤◌, ℕ, List, [], length}
use Rattle.packet_frame.specs.Framing.{place_of}
use Rattle.loginctl.specs.Input.{Held}
use Rattle.loginctl.specs.Listing.{HasRead, IsSteady}
use Rattle.loginctl.specs.Printing.{Wrote}
use Rattle.loginctl.proofs.frames.print_frames.Given as goal

abbrev pub invariant-pieces : goal.invariant-pieces
invariant-pieces g l = record {
  piece : length l.piece ≡ 65536;
  steady : IsSteady l.listing;
  empty : l.listing.lines ≡ [];
  within : place_of l.listing.frames ≤ 1099511627776;
  read : (bytes written : List ℕ) × Held (g.S.Source.left l.fn.input) (g.S.Source.left l.input) bytes
      × Wrote (g.W.Sink.written l.fn.out) (g.W.Sink.written l.out) written × HasRead bytes written l.listing;
  source : g.S.Source.fault_count l.fn.input ≤ g.S.Source.fault_count l.input;
  sink : g.W.Sink.fault_count l.fn.out ≤ g.W.Sink.fault_count l.out;
}

abbrev pub decreases-pieces : goal.decreases-pieces
decreases-pieces g l = 1099511627776 - place_of l.listing.frames
