use Rattle.std.proofs.Common.{◌≡◌, ◌+◌, ◌++◌, ℕ, List, length}
use Rattle.packet_frame.specs.Framing.{place_of}
use Rattle.loginctl.specs.Listing.{HasRead, IsSteady}
use Rattle.loginctl.proofs.frames.Listing.read_piece.Given as goal

abbrev pub invariant-pieces : goal.invariant-pieces
invariant-pieces l = record {
  place : place_of l.self.frames + length l.rest ≡ place_of l.fn.self.frames + length l.fn.piece;
  steady : IsSteady l.self;
  read : (bytes written : List ℕ) → HasRead bytes written l.fn.self →
      (so_far : List ℕ) × (so_far ++ l.rest ≡ bytes ++ l.fn.piece) × HasRead so_far written l.self;
}

abbrev pub decreases-pieces : goal.decreases-pieces
decreases-pieces l = length l.rest
