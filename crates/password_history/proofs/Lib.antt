mod Records
