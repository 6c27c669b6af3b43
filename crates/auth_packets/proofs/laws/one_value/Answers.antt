-- One law for all forms gives each of these.
use Rattle.wire_form.proofs.Payloads.{one_value as one}
use Rattle.auth_packets.specs.Commands.{change_user, command}
use Rattle.auth_packets.specs.Exchange.{more, next_factor, switch}
use Rattle.auth_packets.specs.Handshake.{greeting, response}
use Rattle.auth_packets.specs.Replies.{eof_packet, err_packet, ok_packet}
use Rattle.auth_packets.proofs.CommandLaws.{change-lawful, command-lawful}
use Rattle.auth_packets.proofs.ExchangeLaws.{switch-lawful, more-lawful, next_factor-lawful}
use Rattle.auth_packets.proofs.HandshakeLaws.{greeting-lawful, response-lawful}
use Rattle.auth_packets.proofs.RepliesLaws.{ok-lawful, err-lawful, eof-lawful}
use Rattle.auth_packets.proofs.laws.one_value.Goals as goal

pub returns : goal.returns
returns c = record {
  greeting = one greeting greeting-lawful;
  response = one response response-lawful;
  switch = one switch switch-lawful;
  more = one more more-lawful;
  next_factor = one next_factor next_factor-lawful;
  ok_packet = one ok_packet ok-lawful;
  err_packet = one err_packet err-lawful;
  eof_packet = one eof_packet eof-lawful;
  change_user = one change_user change-lawful;
  command = one command command-lawful;
}
