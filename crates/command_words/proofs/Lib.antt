mod AuditRows
mod GroupRows
mod NodeRows
mod Optioned
mod Parsing
mod Refusals
mod Rows
