use Rattle.std.proofs.Common.{Ok}
use Rattle.clap.specs.Words.{App, with_subcommand}
use Rattle.pay_cli.specs.Job.{audit_app, book_app, check_app, desk_app, export_app, journal_app, node_app, payd_alone, sim_app, statement_app}
use Rattle.pay_cli.proofs.AskedLemmas.{one_command_more}
use Rattle.pay_cli.proofs.words.payd.Goals as goal

pub returns : goal.returns
returns c =
    let alone = payd_alone in
    let with_check : App = with_subcommand alone check_app.top in
    let with_desk : App = with_subcommand with_check desk_app.top in
    let with_node : App = with_subcommand with_desk node_app.top in
    let with_export : App = with_subcommand with_node export_app.top in
    let with_audit : App = with_subcommand with_export audit_app.top in
    let with_book : App = with_subcommand with_audit book_app.top in
    let with_statement : App = with_subcommand with_book statement_app.top in
    let with_journal : App = with_subcommand with_statement journal_app.top in
    let one = one_command_more (Ok c.payd_alone.result) c.check.result c.with_command-program.result alone check_app c.payd_alone.ensures c.check.ensures c.with_command-program.ensures in
    let two = one_command_more c.with_command-program.result c.desk.result c.with_command-program-2.result with_check desk_app one c.desk.ensures c.with_command-program-2.ensures in
    let three = one_command_more c.with_command-program-2.result c.node.result c.with_command-program-3.result with_desk node_app two c.node.ensures c.with_command-program-3.ensures in
    let four = one_command_more c.with_command-program-3.result c.exporting.result c.with_command-program-4.result with_node export_app three c.exporting.ensures c.with_command-program-4.ensures in
    let five = one_command_more c.with_command-program-4.result c.audit.result c.with_command-program-5.result with_export audit_app four c.audit.ensures c.with_command-program-5.ensures in
    let six = one_command_more c.with_command-program-5.result c.book.result c.with_command-program-6.result with_audit book_app five c.book.ensures c.with_command-program-6.ensures in
    let seven = one_command_more c.with_command-program-6.result c.statement.result c.with_command-program-7.result with_book statement_app six c.statement.ensures c.with_command-program-7.ensures in
    let eight = one_command_more c.with_command-program-7.result c.journal.result c.with_command-program-8.result with_statement journal_app seven c.journal.ensures c.with_command-program-8.ensures in
    one_command_more c.with_command-program-8.result (Ok c.titled_command.result) c.with_command.result with_journal sim_app eight c.titled_command.ensures c.with_command.ensures
